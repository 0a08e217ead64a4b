use Rattle.std.proofs.Common.{◌≡◌}
use Rattle.hpf_syntax.specs.Partial.{progress_of, run, expression_at}
use Rattle.hpf_syntax.proofs.expression.expression.Given as goal

abbrev pub invariant-loop-terminal : goal.invariant-loop-terminal
invariant-loop-terminal l = run l.room (progress_of l.partial) l.rest ≡ expression_at 64 l.tokens

abbrev pub decreases-loop-terminal : goal.decreases-loop-terminal
decreases-loop-terminal l = l.room
