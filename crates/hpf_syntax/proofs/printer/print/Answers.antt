use Rattle.std.proofs.Common.{map}
use Rattle.hpf_syntax.specs.Plain.{item_tree}
use Rattle.hpf_syntax.proofs.Lexing.{Lexing}
use Rattle.hpf_syntax.proofs.PrintedText.{if_printed}
use Rattle.hpf_syntax.proofs.printer.print.Goals as goal

pub returns-clause-read_again : goal.returns-clause-read_again
returns-clause-read_again c =
    let laws : Lexing = record {
      spelled = c.spelled_token.ensures.found;
      not_blank = c.spelled_token.ensures.no_blank;
      numeral = c.numeral.ensures;
    } in
    if_printed laws c.proper_tokens.ensures c.one_line_each.ensures.tokens (map item_tree c.args.items.now) c.lines.result c.requires.parsed (rw c.as_slice.ensures at c.lines.ensures)
