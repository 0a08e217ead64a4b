use Rattle.std.proofs.Common.{sym, subst, MatchOption}
use Rattle.hpf_dist.specs.Condition.{Suits, Breaks}
use Rattle.hpf_dist.specs.declared.format.Format.{Format}
use Rattle.hpf_dist.proofs.condition.refusal_of.Goals as goal

pub returns-in-Cyclic : goal.returns-in-Cyclic
returns-in-Cyclic c =
    subst (λ (f : Format). MatchOption c.cyclic_refusal.result (Suits c.args.extent c.args.procs f) (Breaks c.args.extent c.args.procs f)) (sym c.in-Cyclic.is) (c.cyclic_refusal.ensures c.args.extent c.args.procs)
