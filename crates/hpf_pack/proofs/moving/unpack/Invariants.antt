use Rattle.std.proofs.Common.{◌≡◌, length, take}
use Rattle.hpf_sched.specs.Moves.{moves, runs}
use Rattle.hpf_pack.proofs.Copying.{IsWritten}
use Rattle.hpf_pack.proofs.moving.unpack.Given as goal

abbrev pub invariant-loop-k : goal.invariant-loop-k
invariant-loop-k l = record {
  at : l.at ≡ length (moves (take l.k (runs l.route)));
  written : IsWritten l.route l.from l.initial.into l.into l.at;
}
