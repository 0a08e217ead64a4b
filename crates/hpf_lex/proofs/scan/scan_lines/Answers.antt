use Rattle.std.proofs.Common.{◌+◌, ◌≡◌, length, arith}
use Rattle.std.proofs.lemmas.Result.{err_from_is_err_and}
use Rattle.hpf_lex.specs.Line.{part_of}
use Rattle.hpf_lex.specs.Scanning.{line_marks}
use Rattle.hpf_lex.proofs.Parts.{line_passed, line_failed, all_read, never_continued}
use Rattle.hpf_lex.proofs.Order.{tokens_read, fault_read, failed_answer}
use Rattle.hpf_lex.proofs.scan.scan_lines.Goals as goal

pub loop-rest-preserved : goal.loop-rest-preserved
loop-rest-preserved c = record {
  lines = omega (arith, c.first_line.ensures.shorter);
  goes_on = line_passed c.loop-rest.tokens.items c.push_line.new.tokens.items c.loop-rest.pending (c.loop-rest.line + 1) c.loop-rest.rest.now c.first_line.result.0.now c.first_line.result.1.now _
      c.in_ok-pending.pending c.first_line.ensures.lines c.in_ok-pending.ensures.pushed.0 c.in_ok-pending.ensures.pushed.1 c.loop-rest.invariant.goes_on;
  whole = c.in_ok-pending.ensures.ended;
}

pub returns-in_err-pending : goal.returns-in_err-pending
returns-in_err-pending c =
    let p = err_from_is_err_and c.from_residual.result c.from_residual.ensures.1 in
    let line = c.loop-rest.line + 1 in
    let bytes = c.first_line.result.0.now in
    let failed = failed_answer c.args.text.now (line_marks c.loop-rest.pending (part_of line bytes)) c.in_err-pending.field-0.0 c.requires
    (λ f h. line_failed c.loop-rest.tokens.items c.push_line.new.tokens.items c.loop-rest.pending line c.loop-rest.rest.now bytes c.first_line.result.1.now _
    f c.first_line.ensures.lines h c.loop-rest.invariant.goes_on)
    c.in_err-pending.ensures.pushed in
    rw (p.1, p.2) (record { answers = failed.0; placed = failed.1 })

pub returns-in-None-clause-answers : goal.returns-in-None-clause-answers
returns-in-None-clause-answers c =
    let none : length c.loop-rest.rest.now ≡ 0 = grind arith in
    let goes_on = rw c.in-None.is at c.loop-rest.invariant.goes_on in
    rw c.new.ensures (tokens_read c.args.text.now c.loop-rest.tokens.items c.requires (all_read c.loop-rest.tokens.items (c.loop-rest.line + 1) c.loop-rest.rest.now _ none goes_on))

pub returns-in-Some : goal.returns-in-Some
returns-in-Some c =
    let none : length c.loop-rest.rest.now ≡ 0 = grind arith in
    let goes_on = rw c.in-Some.is at c.loop-rest.invariant.goes_on in
    let met = fault_read c.args.text.now _ c.requires (never_continued c.loop-rest.tokens.items c.in-Some.pending (c.loop-rest.line + 1) c.loop-rest.rest.now _ none goes_on) in
    rw c.dangling.ensures (record { answers = met.0; placed = met.1 })
