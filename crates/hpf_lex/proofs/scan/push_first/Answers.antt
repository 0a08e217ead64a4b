use Rattle.std.proofs.lemmas.Result.{err_from_is_err_and}
use Rattle.hpf_lex.specs.Statement.{place, prefix_marks, first_marks, marks, own_text}
use Rattle.hpf_lex.specs.Views.{part_view}
use Rattle.hpf_lex.proofs.Marks.{pushes_on, fails_then}
use Rattle.hpf_lex.proofs.scan.push_first.Goals as goal

pub returns-in_err-past : goal.returns-in_err-past
unfolding first_marks
returns-in_err-past c =
    let part = part_view c.args.part.now in
    let p = err_from_is_err_and c.from_residual.result c.from_residual.ensures.1 in
    rw (p.1, p.2) (fails_then (prefix_marks part) (marks part.line part.column 0 (own_text part)) c.in_err-past.field-0.0 c.in_err-past.ensures)

pub returns : goal.returns
unfolding first_marks
returns c =
    let part = part_view c.args.part.now in
    let a = prefix_marks part in
    let b = marks part.line part.column 0 (own_text part) in
    pushes_on _ _ _ (place part.line part.start) c.in_ok-past.past a b c.push_tokens.result c.in_ok-past.ensures.0 c.in_ok-past.ensures.1
    (rw (← c.own_text.ensures.text) c.push_tokens.ensures)
