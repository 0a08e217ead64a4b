use Rattle.hpf_syntax.proofs.Lexing.{Lexing}
use Rattle.hpf_syntax.proofs.PrintedAlike.{alike_text}
use Rattle.hpf_syntax.proofs.PrintedText.{same_text}
use Rattle.hpf_syntax.proofs.grammar.one_canonical_text.Goals as goal

pub returns-clause-alike : goal.returns-clause-alike
returns-clause-alike c = alike_text

pub returns-clause-only : goal.returns-clause-only
returns-clause-only c =
    let laws : Lexing = record {
      spelled = c.spelled_token.ensures.found;
      not_blank = c.spelled_token.ensures.no_blank;
      numeral = c.numeral.ensures;
    } in
    same_text laws c.proper_tokens.ensures c.one_line_each.ensures.marks
