use Rattle.hpf_lex.proofs.OneLines.{one_line_marks, one_line_each}
use Rattle.hpf_lex.proofs.laws.one_line_each.Goals as goal

pub returns : goal.returns
returns c = record { marks = one_line_marks; tokens = one_line_each }
