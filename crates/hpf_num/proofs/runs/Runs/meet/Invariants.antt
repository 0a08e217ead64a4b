use Rattle.std.proofs.Common.{◌≡◌, filter, take}
use Rattle.hpf_num.specs.Runs.{has}
use Rattle.hpf_num.proofs.runs.Runs.meet.Given as goal

abbrev pub invariant-loop-i : goal.invariant-loop-i
invariant-loop-i l = l.both ≡ filter (has l.other) (take l.i-index l.self)
