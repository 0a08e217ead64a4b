-- The numbers that texts say.
use Rattle.std.proofs.Common.{◌≡◌, ◌==◌, ℕ, Bool, true, false, cond, drop, [], ◌∷◌, Option, Some, None, refl, sym, ap, subst, arith}
use Rattle.std.specs.Prelude.{pos, unwrap_or, option_map}
use Rattle.std.specs.Str.Parse.{IsNumeral, ParsesUnsigned, ExplainsUnsignedError, HasUnsignedDigitsIfOk, digits_value, starts_with_minus, without_leading_plus}
use Rattle.std.proofs.lemmas.Bool.{ne_eqb}
use Rattle.std.proofs.lemmas.Int.{ints}
use Rattle.std.proofs.lemmas.Str.Parse.{digit_from_value}
use Rattle.clap.specs.Lexer.{without_minus}
use Rattle.clap.specs.Words.{Text, IsSignedIn, ReadsOne}
use Rattle.hpf_words.specs.Given.{Says, said_by}

without_minus-cond : (text : Text) → without_minus text ≡ cond (starts_with_minus text) (drop 1 text) text
without_minus-cond [] = refl
without_minus-cond (x ∷ xs) = go (x == 45)
  where
    go : (b : Bool) → unwrap_or (cond b (Some xs) None) (x ∷ xs) ≡ cond b xs (x ∷ xs)
    go true = refl
    go false = refl

no_plus : (digits : Text) → IsNumeral 10 digits → without_leading_plus digits ≡ digits
no_plus [] h = refl
no_plus (d ∷ ds) h =
    let plus : (d == 43) ≡ false = ne_eqb _ _ (λ e. omega (arith, digit_from_value d h.1.0)) in
    ap (λ (b : Bool). drop (cond b 1 0) (d ∷ ds)) plus

-- a text that passed a range says a number in it, but for its minus
pub says : (least most : ℕ) (text : Text) → IsSignedIn (pos least) (pos most) text → Says least most (without_minus text)
says least most text passed = subst (Says least most) (sym (without_minus-cond text)) (go (starts_with_minus text) refl)
  where
    go : (b : Bool) → starts_with_minus text ≡ b → Says least most (cond (starts_with_minus text) (drop 1 text) text)
    go true minus =
        let low = rw minus at passed.2 in
        let numeral : IsNumeral 10 (drop 1 text) = rw minus at passed.0 in
        let same = no_plus (drop 1 text) numeral in
        let none : digits_value 10 (drop 1 text) ≡ 0 = omega (arith, ints) in
        let least_none : least ≡ 0 = omega (arith, ints) in
        rw minus (record { numeral = rw same numeral; low = rw (same, none, least_none) (omega arith); high = rw (same, none) (omega arith) })
    go false minus =
        let low = rw minus at passed.2 in
        let high = rw minus at passed.3 in
        let numeral = rw minus at passed.0 in
        rw minus (record { numeral = numeral; low = omega (arith, ints); high = omega (arith, ints) })

-- what is read of an option that says a number of 32 bits is that number
pub read_number : (found : Option Text) (read : Option ℕ) → (found ≡ None → read ≡ None)
    → ((text : Text) → found ≡ Some text → ReadsOne (λ bs r. ParsesUnsigned 32 10 bs r × ExplainsUnsignedError 10 bs r × HasUnsignedDigitsIfOk bs r) text read)
    → ((text : Text) → found ≡ Some text → Says 0 4294967295 text) → read ≡ option_map said_by found
read_number None read none some says = none refl
read_number (Some text) (Some n) none some says = ap Some (some text refl).0.1
read_number (Some text) None none some says =
    let number = says text refl in
    absurd ((some text refl).1.0 (number.numeral, omega (arith, number.high)))
