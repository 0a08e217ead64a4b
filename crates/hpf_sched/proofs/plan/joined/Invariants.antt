use Rattle.std.proofs.Common.{◌≡◌, take}
use Rattle.hpf_sched.proofs.plan.joined.Given as goal

abbrev pub invariant-loop-item : goal.invariant-loop-item
invariant-loop-item l = l.chain ≡ take l.item-index l.moves
