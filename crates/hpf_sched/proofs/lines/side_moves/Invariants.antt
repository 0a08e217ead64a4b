use Rattle.std.proofs.Common.{◌≡◌, map, filter, take, ◌+ℤ◌}
use Rattle.hpf_num.specs.Runs.{has}
use Rattle.hpf_sched.specs.Lines.{side_move}
use Rattle.hpf_sched.proofs.lines.side_moves.Given as goal

abbrev pub invariant-loop-k : goal.invariant-loop-k
invariant-loop-k l = l.moves.items ≡ map (side_move l.owned l.held l.rise.shift l.rise.from l.rise.to) (filter (λ x. has l.owned (x +ℤ l.rise.shift)) (take l.k l.held))
