use Rattle.std.proofs.Common.{ℕ, ◌+◌, ◌*◌, ◌<◌, ◌≤◌, mul_comm, sym, arith}
use Rattle.std.proofs.Math.Nat.{mul-le-mul_left}
use Rattle.hpf_own.specs.Owners.{holds}
use Rattle.hpf_own.proofs.Sets.{repeat_more, repeat_less}
use Rattle.hpf_own.proofs.mapping.Mapping.repeated.Goals as goal
use Rattle.hpf_own.proofs.mapping.Mapping.repeated.Goals.{then-holds, else-holds}
use Rattle.hpf_dist.specs.Limits.{processor_limit}

few : (c size stride : ℕ) → c < size → stride * size ≤ processor_limit → (c + 1) * stride ≤ processor_limit
few c size stride h k = omega (arith, mul-le-mul_left stride (let z : c + 1 ≤ size = omega arith in z), mul_comm stride (c + 1))

pub loop-c-preserved : goal.loop-c-preserved
loop-c-preserved c =
    elim c.if-holds.branch [
      | then-holds w ↦
          rw w.all-is (repeat_more (holds c.args.self.now.dims c.args.index.now c.args.e) c.args.set c.args.stride c.loop-c.c c.loop-c.all c.requires.some (few c.loop-c.c c.args.size c.args.stride (omega arith) c.requires.few) c.requires.below c.loop-c.invariant (sym w.if-holds.ensures))
      | else-holds w ↦
          rw w.all-is (repeat_less (holds c.args.self.now.dims c.args.index.now c.args.e) c.args.set c.args.stride c.loop-c.c c.loop-c.all c.requires.some c.loop-c.invariant (sym w.if-holds.ensures))
    ]
