use Rattle.std.proofs.Common.{◌≡◌, length, take}
use Rattle.hpf_sched.specs.Moves.{moves}
use Rattle.hpf_sched.proofs.route.total.Given as goal

abbrev pub invariant-loop-step : goal.invariant-loop-step
invariant-loop-step l = l.elements ≡ length (moves (take l.step-index l.steps))
