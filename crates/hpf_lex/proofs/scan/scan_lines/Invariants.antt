use Rattle.std.proofs.Common.{◌≡◌, ◌+◌, ◌≤◌, length, None}
use Rattle.hpf_lex.specs.Statement.{max_text}
use Rattle.hpf_lex.specs.Whole.{AreWhole}
use Rattle.hpf_lex.specs.Line.{lines_of, parts_of}
use Rattle.hpf_lex.specs.Scanning.{with_front, read, scan}
use Rattle.hpf_lex.proofs.scan.scan_lines.Given as goal

abbrev pub invariant-loop-rest : goal.invariant-loop-rest
invariant-loop-rest l = record {
  lines : l.line + length l.rest ≤ max_text;
  goes_on : with_front l.tokens.items (read (scan l.pending (parts_of (l.line + 1) (lines_of l.rest)))) ≡ read (scan None (parts_of 1 (lines_of l.text)));
  whole : l.pending ≡ None → AreWhole l.tokens.items;
}

abbrev pub decreases-loop-rest : goal.decreases-loop-rest
decreases-loop-rest l = length l.rest
