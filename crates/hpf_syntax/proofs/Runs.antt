-- Reading an expression one token after the other, as a loop does.
use Rattle.std.proofs.Common.{◌≡◌, ℕ, zero, suc, ◌-◌, ◌<◌, true, false, List, [], Result, Err, refl, sym, ap, ◌∙◌, arith}
use Rattle.hpf_lex.specs.declared.token.Token.{Token}
use Rattle.hpf_syntax.specs.declared.stop.BadToken.{BadToken}
use Rattle.hpf_syntax.specs.declared.stop.Fault.TheVariants.{LongExpression}
use Rattle.hpf_syntax.specs.Terminal.{first_terminal}
use Rattle.hpf_syntax.specs.Reading.{bad_at, rest_of}
use Rattle.hpf_syntax.specs.Plain.{Tree}
use Rattle.hpf_syntax.specs.Partial.{Progress, takes, step, value_of, ended, run, fresh, expression_at}

pub run_starts : (tokens : List Token) → run 64 (fresh []) tokens ≡ expression_at 64 tokens
unfolding expression_at
run_starts tokens = refl

pub run_once : (room : ℕ) (p : Progress) (tokens : List Token) → takes p (first_terminal tokens) ≡ true → run (suc room) p tokens ≡ run room (step (first_terminal tokens) tokens p) (rest_of tokens)
unfolding run
run_once room p tokens goes = rw goes refl

pub run_goes_on : (room : ℕ) (p : Progress) (tokens : List Token) (total : Result (Tree × List Token) BadToken) → takes p (first_terminal tokens) ≡ true → 0 < room → run room p tokens ≡ total → run (room - 1) (step (first_terminal tokens) tokens p) (rest_of tokens) ≡ total
run_goes_on room p tokens total goes some so_far =
    let k : room ≡ suc (room - 1) = omega arith in
    sym (run_once (room - 1) p tokens goes) ∙ ap (λ (n : ℕ). run n p tokens) (sym k) ∙ so_far

pub run_is_full : (p : Progress) (tokens : List Token) → takes p (first_terminal tokens) ≡ true → run zero p tokens ≡ Err (bad_at LongExpression tokens)
unfolding run
run_is_full p tokens goes = rw goes refl

pub run_stops : (room : ℕ) (p : Progress) (tokens : List Token) → takes p (first_terminal tokens) ≡ false → run room p tokens ≡ ended (value_of p) tokens
unfolding run
run_stops zero p tokens stops = rw stops refl
run_stops (suc room) p tokens stops = rw stops refl
