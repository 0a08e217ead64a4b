use Rattle.std.proofs.Common.{◌∙◌}
use Rattle.hpf_map.proofs.names.Names.place.Goals as goal

pub returns-in-Some : goal.returns-in-Some
returns-in-Some c = rw (← c.self.view_is) (c.in-Some.ensures.value ∙ c.self.invariant.0.place c.args.word.now)

pub returns-in-None : goal.returns-in-None
returns-in-None c = rw (← c.self.view_is) (c.in-None.ensures.value ∙ c.self.invariant.0.place c.args.word.now)
