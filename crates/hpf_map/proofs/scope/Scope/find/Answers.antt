use Rattle.hpf_map.proofs.IndexLemmas.{known-append}
use Rattle.hpf_map.proofs.scope.Scope.find.Goals as goal

pub returns-in-Some : goal.returns-in-Some
returns-in-Some c = rw (← c.self.view_is) (rw known-append (rw (← c.in-Some.ensures)))

pub returns-in-None : goal.returns-in-None
returns-in-None c = rw (← c.self.view_is) (rw known-append (rw (← c.in-None.ensures) c.named.ensures))
