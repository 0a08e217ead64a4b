use Rattle.hpf_map.specs.Stages.{nothing_behind, after_line, line_breaches}
use Rattle.hpf_map.proofs.DeclareLemmas.{Threads}
use Rattle.hpf_map.proofs.stages.test_lines.Given as goal

abbrev pub invariant-loop-line : goal.invariant-loop-line
invariant-loop-line l =
    Threads (λ line. line) after_line (line_breaches l.names) l.lines l.line-index nothing_behind l.behind l.initial.breaches l.breaches
