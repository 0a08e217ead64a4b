-- Words and numbers at the front of bytes.
use Rattle.std.proofs.Common.{◌≡◌, ℕ, ◌+◌, ◌-◌, ◌*◌, ◌<◌, ◌≤◌, Bool, true, nat_le, List, [], ◌∷◌, length, get_or, drop, refl, ◌∙◌, inl, inr, arith}
use Rattle.std.specs.List.{list_all, take_while}
use Rattle.std.proofs.lemmas.Bool.{cases_Bool, or_left, and_from, cond-true}
use Rattle.std.proofs.lemmas.List.{drop_more}
use Rattle.std.proofs.lemmas.List.Sums.{take_while-cons}
use Rattle.hpf_lex.specs.Bytes.{is_letter, is_name_byte}
use Rattle.hpf_lex.specs.Name.{is_name}
use Rattle.hpf_lex.specs.Lexeme.{spelled, number_on}

all_pass : (p : ℕ → Bool) (bytes : List ℕ) → list_all p (take_while p bytes) ≡ true
all_pass p [] = refl
all_pass p (c ∷ bytes) =
    elim (cases_Bool (p c)) [
      | inl passes ↦ rw (take_while-cons p c bytes, passes) (and_from _ _ passes (all_pass p bytes))
      | inr fails ↦ rw (take_while-cons p c bytes, fails) refl
    ]

-- what is spelled from a letter on is a name, if it isn't too long
pub name_spelled : (bytes : List ℕ) → 0 < length bytes → is_letter (get_or bytes 0 0) ≡ true → is_name (spelled bytes) ≡ nat_le (length (spelled bytes)) 31
name_spelled [] h letter = absurd (omega arith)
name_spelled (c ∷ bytes) h letter =
    let passes : is_name_byte c ≡ true = or_left _ _ (or_left _ _ letter) in
    let here : spelled (c ∷ bytes) ≡ c ∷ spelled bytes = take_while-cons is_name_byte c bytes ∙ cond-true (is_name_byte c) (c ∷ spelled bytes) [] passes in
    let others = all_pass is_name_byte bytes in
    rw here (rw (letter, others) refl)

pub number_grows : (n : ℕ) (digits : List ℕ) → n ≤ number_on n digits
number_grows n [] = omega arith
number_grows n (d ∷ digits) = omega (arith, number_grows (10 * n + (d - 48)) digits)

pub too_great : (n : ℕ) (bytes : List ℕ) (i max : ℕ) → i < length bytes → max < 10 * n + (get_or bytes i 0 - 48) → max < number_on n (drop i bytes)
too_great n bytes i max lt h = rw (drop_more bytes i 0 lt) (omega (arith, number_grows (10 * n + (get_or bytes i 0 - 48)) (drop (i + 1) bytes)))
