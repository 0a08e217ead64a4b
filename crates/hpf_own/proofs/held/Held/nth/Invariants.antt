use Rattle.std.proofs.Common.{◌≡◌, length}
use Rattle.hpf_own.proofs.Sides.{IsWritten}
use Rattle.hpf_own.proofs.held.Held.nth.Given as goal

abbrev pub invariant-loop-d : goal.invariant-loop-d
invariant-loop-d l = record {
  written : IsWritten l.side-items l.k l.d l.rest l.into;
  rank : length l.into ≡ length l.side-items;
}
