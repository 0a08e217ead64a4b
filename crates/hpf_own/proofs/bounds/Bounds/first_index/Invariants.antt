use Rattle.std.proofs.Common.{◌≡◌, length, take}
use Rattle.hpf_own.proofs.Walking.{lows}
use Rattle.hpf_own.proofs.bounds.Bounds.first_index.Given as goal

abbrev pub invariant-loop-d : goal.invariant-loop-d
invariant-loop-d l = record {
  rank : length l.into ≡ length l.run-items;
  front : take l.d l.into ≡ take l.d (lows l.run-items);
}
