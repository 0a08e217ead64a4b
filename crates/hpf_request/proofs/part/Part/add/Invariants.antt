use Rattle.std.proofs.Common.{◌≡◌, ◌+◌, ◌≤◌, ◌+ℤ◌, w64, take, length}
use Rattle.std.specs.Int.{int_wrap}
use Rattle.hpf_request.specs.Part.{values_at}
use Rattle.hpf_request.specs.Mark.{weighted}
use Rattle.hpf_request.proofs.part.Part.add.Given as goal

abbrev pub invariant-loop-before : goal.invariant-loop-before
invariant-loop-before l = record {
  counted : l.before ≤ length l.position-items;
  summed : l.mark ≡ int_wrap w64 (l.initial.mark +ℤ weighted (l.number + 1) 1 (values_at l.frame (take l.before l.position-items)));
}
