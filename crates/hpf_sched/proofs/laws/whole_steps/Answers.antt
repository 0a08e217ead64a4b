use Rattle.std.proofs.Common.{List, sym, ap, ◌∙◌}
use Rattle.hpf_sched.specs.declared.step.Move.{Move}
use Rattle.hpf_sched.specs.Moves.{runs}
use Rattle.hpf_sched.proofs.Runs.{runs_are, runs_cover, runs_longest}
use Rattle.hpf_sched.proofs.laws.whole_steps.Goals as goal

pub returns-clause-runs : goal.returns-clause-runs
returns-clause-runs c = λ list. record { cover = runs_cover list; longest = runs_longest list }

pub returns-clause-only : goal.returns-clause-only
returns-clause-only c = λ list steps are. sym (runs_are steps are.longest) ∙ ap (λ (l : List Move). runs l) are.cover
