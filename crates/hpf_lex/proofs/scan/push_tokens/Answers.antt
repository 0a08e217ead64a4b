use Rattle.std.proofs.Common.{◌≡◌, ◌<◌, ◌≤◌, true, false, length, get_or, sym, ◌∙◌, arith, refl, Ok, Err, length-drop}
use Rattle.std.proofs.lemmas.List.{take_rest}
use Rattle.hpf_lex.specs.Bytes.{is_blank}
use Rattle.hpf_lex.specs.Lexeme.{lexeme_at}
use Rattle.hpf_lex.specs.Statement.{marks}
use Rattle.hpf_lex.proofs.Marks.{begins, blank_passed, token_passed, fault_met, all_passed}
use Rattle.hpf_lex.proofs.scan.push_tokens.Goals as goal

pub loop-rest-init : goal.loop-rest-init
loop-rest-init c = record { fits = refl; goes_on = begins c.args.tokens.now.items c.args.past (marks c.args.line c.args.column 0 c.args.bytes.now) }

pub loop-rest-preserved-then-is_blank : goal.loop-rest-preserved-then-is_blank
loop-rest-preserved-then-is_blank c =
    let rest = c.loop-rest.rest.now in
    let some : 0 < length rest = grind arith in
    let blank : is_blank (get_or rest 0 0) ≡ true = cc in
    rw (take_rest rest 1) (record {
      fits = omega (arith, length-drop 1 rest);
      goes_on = blank_passed _ _ _ _ _ c.args.line c.loop-rest.column rest some blank c.loop-rest.invariant.goes_on;
    })

pub returns-in-Err : goal.returns-in-Err
returns-in-Err c =
    let rest = c.loop-rest.rest.now in
    let some : 0 < length rest = grind arith in
    let blank : is_blank (get_or rest 0 0) ≡ false = cc in
    let found : lexeme_at rest ≡ Err c.in-Err.fault = sym c.lexeme_at.ensures.found ∙ c.in-Err.is in
    rw c.at.ensures (fault_met _ _ _ _ _ c.args.line c.loop-rest.column rest c.in-Err.fault some blank found c.loop-rest.invariant.goes_on)

pub loop-rest-preserved : goal.loop-rest-preserved
loop-rest-preserved c =
    let rest = c.loop-rest.rest.now in
    let lexeme = c.in-Ok.lexeme in
    let some : 0 < length rest = grind arith in
    let blank : is_blank (get_or rest 0 0) ≡ false = cc in
    let found : lexeme_at rest ≡ Ok lexeme = sym c.lexeme_at.ensures.found ∙ c.in-Ok.is in
    let wide : 0 < lexeme.width = c.in-Ok.ensures.some in
    let within : lexeme.width ≤ length rest = c.in-Ok.ensures.within in
    let passed = token_passed _ _ _ _ _ c.args.line c.loop-rest.column rest lexeme some blank found wide c.loop-rest.invariant.goes_on in
    rw (take_rest rest lexeme.width) (record {
      fits = omega (arith, length-drop lexeme.width rest);
      goes_on = rw (c.in_ok-push.ensures.items, c.at-else-is_blank.ensures) passed;
    })

pub returns : goal.returns
returns c =
    let rest = c.loop-rest.rest.now in
    let none : length rest ≡ 0 = grind arith in
    all_passed _ _ _ _ _ c.args.line c.loop-rest.column rest none c.loop-rest.invariant.goes_on
