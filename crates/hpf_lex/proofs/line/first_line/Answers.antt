use Rattle.std.proofs.Common.{◌+◌, sym, ◌∙◌, arith}
use Rattle.std.proofs.lemmas.List.{take_rest, drop_all}
use Rattle.hpf_lex.proofs.Lines.{plain_line, returned_line, last_line, lines-none}
use Rattle.hpf_lex.proofs.line.first_line.Goals as goal
use Rattle.hpf_lex.proofs.line.first_line.Goals.{else-end-gt0-via-then-end-gt0+else-text-end-eq13, else-end-gt0-via-else-end-gt0}

pub returns-then-end-text-clause-lines : goal.returns-then-end-text-clause-lines
returns-then-end-text-clause-lines c =
    let text = c.args.text.now in
    let end = c.text_before-end.result in
    rw (take_rest text end, drop_all end text (omega arith), lines-none)
    (last_line text c.requires (sym c.text_before-end.ensures.place ∙ c.if-end-text.true))

pub returns-then-text-end-eq13-clause-lines : goal.returns-then-text-end-eq13-clause-lines
returns-then-text-end-eq13-clause-lines c =
    let text = c.args.text.now in
    let end = c.text_before-end.result in
    rw (take_rest text (end + 1)) (returned_line text end c.text_before-end.ensures.place (omega arith) c.if-end-gt0.true c.if-text-end-eq13.true)

pub returns-else-end-gt0-clause-lines : goal.returns-else-end-gt0-clause-lines
returns-else-end-gt0-clause-lines c =
    let text = c.args.text.now in
    let end = c.text_before-end.result in
    rw (take_rest text (end + 1)) (plain_line text end c.text_before-end.ensures.place (omega arith)
    (λ some last. elim c.else-end-gt0.branch [
      | else-end-gt0-via-then-end-gt0+else-text-end-eq13 w ↦ w.if-text-end-eq13.false last
      | else-end-gt0-via-else-end-gt0 w ↦ absurd (omega arith)
    ]))
