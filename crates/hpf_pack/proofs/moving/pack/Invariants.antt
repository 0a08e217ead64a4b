use Rattle.std.proofs.Common.{◌≡◌, length, take}
use Rattle.hpf_sched.specs.Moves.{moves, runs}
use Rattle.hpf_pack.specs.Packing.{packed}
use Rattle.hpf_pack.proofs.moving.pack.Given as goal

abbrev pub invariant-loop-k : goal.invariant-loop-k
invariant-loop-k l = record {
  at : l.at ≡ length (moves (take l.k (runs l.route)));
  written : take l.at l.into ≡ packed (moves (take l.k (runs l.route))) l.from;
}
