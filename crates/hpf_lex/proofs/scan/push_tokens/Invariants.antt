use Rattle.std.proofs.Common.{◌≡◌, ◌+◌, length}
use Rattle.hpf_lex.specs.Statement.{marks}
use Rattle.hpf_lex.proofs.Marks.{GoesOn}
use Rattle.hpf_lex.proofs.scan.push_tokens.Given as goal

abbrev pub invariant-loop-rest : goal.invariant-loop-rest
invariant-loop-rest l = record {
  fits : l.column + length l.rest ≡ l.fn.column + length l.bytes;
  goes_on : GoesOn l.fn.tokens.items l.fn.past (marks l.line l.fn.column 0 l.bytes) l.tokens.items l.past (marks l.line l.column 0 l.rest);
}

abbrev pub decreases-loop-rest : goal.decreases-loop-rest
decreases-loop-rest l = length l.rest
