use Rattle.std.proofs.Common.{◌≡◌, take}
use Rattle.hpf_sched.specs.Lines.{crossed}
use Rattle.hpf_sched.proofs.lines.crossed.Given as goal

abbrev pub invariant-loop-line : goal.invariant-loop-line
invariant-loop-line l = l.moves.items ≡ crossed (take l.line-index l.lines) l.side
