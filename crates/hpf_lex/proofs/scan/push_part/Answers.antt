use Rattle.std.proofs.lemmas.Result.{err_from_is_err_and}
use Rattle.hpf_lex.specs.Views.{part_view}
use Rattle.hpf_lex.specs.Scanning.{inner_marks, closing_marks, past_inner, part_marks, pending_part}
use Rattle.hpf_lex.proofs.Marks.{pushes_then, fails_then}
use Rattle.hpf_lex.proofs.scan.push_part.Goals as goal

pub returns-in_err-past-clause-pushed : goal.returns-in_err-past-clause-pushed
unfolding part_marks
returns-in_err-past-clause-pushed c =
    let part = part_view c.args.part.now in
    let p = err_from_is_err_and c.from_residual.result c.from_residual.ensures.1 in
    rw (p.1, p.2) (fails_then (inner_marks c.args.pending part) (closing_marks part (past_inner c.args.pending part)) c.in_err-past.field-0.0 c.in_err-past.ensures)

pub returns-clause-pushed : goal.returns-clause-pushed
unfolding part_marks pending_part
returns-clause-pushed c =
    let part = part_view c.args.part.now in
    pushes_then _ _ _ _ (inner_marks c.args.pending part) (closing_marks part (past_inner c.args.pending part)) c.close.result c.in_ok-past.ensures.0
    (rw (← c.in_ok-past.ensures.1) c.close.ensures.pushed)
