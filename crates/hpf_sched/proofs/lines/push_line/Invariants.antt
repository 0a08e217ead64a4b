use Rattle.std.proofs.Common.{◌≡◌, ◌++◌, map, take}
use Rattle.hpf_sched.specs.Lines.{plus}
use Rattle.hpf_sched.proofs.lines.push_line.Given as goal

abbrev pub invariant-loop-item : goal.invariant-loop-item
invariant-loop-item l = l.moves.items ≡ l.initial.moves.items ++ map (plus l.line) (take l.item-index l.side)
