-- The token that is found at the front of bytes is the longest that stands there.
use Rattle.std.proofs.Common.{◌≡◌, ℕ, zero, suc, ◌<◌, ◌≤◌, Bool, true, false, ◌&&◌, ◌||◌, cond, eqb, leb, List, [], ◌∷◌, length, get_or, take, map, Result, Ok, Err, refl, sym, ap, subst, ◌∙◌, arith}
use Rattle.std.specs.List.{list_all, prefix_len}
use Rattle.std.proofs.lemmas.Bool.{and_parts, and_from, eqb-true, leb-true, cond-true, or_left, or_right}
use Rattle.std.proofs.lemmas.Bool.Decides.{nat_tests}
use Rattle.std.proofs.lemmas.List.{length-take-le}
use Rattle.std.proofs.lemmas.List.Sums.{take_while-cons, prefix_len-le-length}
use Rattle.hpf_lex.specs.declared.lexeme.Lexeme.{Lexeme}
use Rattle.hpf_lex.specs.declared.refusal.Fault.{Fault}
use Rattle.hpf_lex.specs.declared.refusal.Fault.TheVariants.{BadByte, BadNumber, NameTooLong}
use Rattle.hpf_lex.specs.declared.token.TokenKind.{TokenKind}
use Rattle.hpf_lex.specs.declared.token.TokenKind.TheVariants as kind
use Rattle.hpf_lex.specs.Bytes.{is_letter, is_digit, is_name_byte, upper}
use Rattle.hpf_lex.specs.Name.{is_name}
use Rattle.hpf_lex.specs.Lexeme.{spelled, number_of, max_number, sign, word_at, number_at, sign_at, lexeme_at}
use Rattle.hpf_lex.specs.Spelling.{IsNumeral, Spells, word_of, number_in, IsLongest}
use Rattle.hpf_lex.proofs.Lexemes.{name_spelled}

-- ---- what is spelled is at most as long as what is found

-- what is found has at least n bytes, or is a fault other than a byte that begins no token
AtMost : ℕ → Result Lexeme Fault → Type 0
AtMost n (Ok found) = n ≤ found.width
AtMost n (Err BadByte) = ⊥
AtMost n (Err BadNumber) = Unit {0}
AtMost n (Err _) = Unit {0}

all_spelled : (bytes : List ℕ) (n : ℕ) → n ≤ length bytes → list_all is_name_byte (take n bytes) ≡ true → n ≤ length (spelled bytes)
all_spelled bytes zero le h = omega arith
all_spelled [] (suc n) le h = absurd (omega arith)
all_spelled (c ∷ bytes) (suc n) le h =
    let parts = and_parts (is_name_byte c) (list_all is_name_byte (take n bytes)) h in
    let here : spelled (c ∷ bytes) ≡ c ∷ spelled bytes = take_while-cons is_name_byte c bytes ∙ cond-true (is_name_byte c) (c ∷ spelled bytes) [] parts.0 in
    let ih = all_spelled bytes n (omega arith) parts.1 in
    omega (arith, ap length here)

pub digits_are_name_bytes : (bytes : List ℕ) → list_all is_digit bytes ≡ true → list_all is_name_byte bytes ≡ true
digits_are_name_bytes [] h = refl
digits_are_name_bytes (c ∷ bytes) h =
    let parts = and_parts (is_digit c) (list_all is_digit bytes) h in
    and_from _ _ (or_left _ _ (or_right (is_letter c) (is_digit c) parts.0)) (digits_are_name_bytes bytes parts.1)

digit_no_letter : (c : ℕ) → is_digit c ≡ true → is_letter c ≡ false
digit_no_letter c h =
    let parts = and_parts (leb 48 c) (leb c 57) h in
    let low : 48 ≤ c = leb-true 48 c parts.0 in
    let high : c ≤ 57 = leb-true c 57 parts.1 in
    grind (arith, nat_tests)

pub letter_at : (c : ℕ) (bytes : List ℕ) → is_letter c ≡ true → lexeme_at (c ∷ bytes) ≡ word_at (c ∷ bytes)
unfolding lexeme_at
letter_at c bytes h = rw h refl

pub digit_at : (c : ℕ) (bytes : List ℕ) → is_digit c ≡ true → lexeme_at (c ∷ bytes) ≡ number_at (c ∷ bytes)
unfolding lexeme_at
digit_at c bytes h = rw (digit_no_letter c h, h) refl

word_at_most : (c : ℕ) (bytes : List ℕ) (n : ℕ) → n ≤ length (c ∷ bytes) → is_name (take n (c ∷ bytes)) ≡ true → AtMost n (lexeme_at (c ∷ bytes))
unfolding AtMost
word_at_most c bytes zero le h = absurd cc
word_at_most c bytes (suc n) le h =
    let parts = and_parts (is_letter c && list_all is_name_byte (take n bytes)) (leb (suc (length (take n bytes))) 31) h in
    let front = and_parts (is_letter c) (list_all is_name_byte (take n bytes)) parts.0 in
    let all : list_all is_name_byte (take (suc n) (c ∷ bytes)) ≡ true = and_from _ _ (or_left _ _ (or_left _ _ front.0)) front.1 in
    let long : suc n ≤ length (spelled (c ∷ bytes)) = all_spelled (c ∷ bytes) (suc n) le all in
    rw (letter_at c bytes front.0) (by_length (leb (length (spelled (c ∷ bytes))) 31) long) where
      by_length : (b : Bool) → suc n ≤ length (spelled (c ∷ bytes))
          → AtMost (suc n) (cond b (Ok (record { kind = kind.Word; word = map upper (spelled (c ∷ bytes)); number = 0; width = length (spelled (c ∷ bytes)) })) (Err NameTooLong))
      by_length true long = long
      by_length false long = tt

number_at_most : (bytes : List ℕ) (n : ℕ) → n ≤ length bytes → IsNumeral (take n bytes) → AtMost n (lexeme_at bytes)
unfolding AtMost
number_at_most bytes zero le h = absurd (omega (arith, h.some))
number_at_most [] (suc n) le h = absurd (omega arith)
number_at_most (c ∷ bytes) (suc n) le h =
    let front = and_parts (is_digit c) (list_all is_digit (take n bytes)) h.digits in
    let long : suc n ≤ length (spelled (c ∷ bytes)) = all_spelled (c ∷ bytes) (suc n) le (digits_are_name_bytes (c ∷ take n bytes) h.digits) in
    rw (digit_at c bytes front.0) (by_digits (list_all is_digit (spelled (c ∷ bytes)) && leb (number_of (spelled (c ∷ bytes))) max_number) long) where
      by_digits : (b : Bool) → suc n ≤ length (spelled (c ∷ bytes))
          → AtMost (suc n) (cond b (Ok (record { kind = kind.Number; word = []; number = number_of (spelled (c ∷ bytes)); width = length (spelled (c ∷ bytes)) })) (Err BadNumber))
      by_digits true long = long
      by_digits false long = tt

-- bytes that begin with one byte, or with two
one_byte : (bytes : List ℕ) (n s : ℕ) → n ≤ length bytes → take n bytes ≡ s ∷ [] → (rest : List ℕ) × (n ≡ 1) × (bytes ≡ s ∷ rest)
one_byte bytes zero s le h = absurd cc
one_byte [] (suc n) s le h = absurd cc
one_byte (c ∷ bytes) (suc n) s le h =
    let same : c ≡ s = cc in
    let none : take n bytes ≡ [] = cc in
    let len : length (take n bytes) ≡ n = length-take-le n bytes (omega arith) in
    let zero-is : n ≡ 0 = sym len ∙ ap length none in
    (bytes, omega arith, ap (λ (x : ℕ). x ∷ bytes) same)

two_bytes : (bytes : List ℕ) (n s t : ℕ) → n ≤ length bytes → take n bytes ≡ s ∷ t ∷ [] → (rest : List ℕ) × (n ≡ 2) × (bytes ≡ s ∷ t ∷ rest)
two_bytes bytes zero s t le h = absurd cc
two_bytes [] (suc n) s t le h = absurd cc
two_bytes (c ∷ bytes) (suc n) s t le h =
    let same : c ≡ s = cc in
    let others : take n bytes ≡ t ∷ [] = cc in
    let more = one_byte bytes n t (omega arith) others in
    (more.0, omega (arith, more.1), ap (λ (x : ℕ). x ∷ bytes) same ∙ ap (λ (x : List ℕ). s ∷ x) more.2)

-- a sign of one byte, whatever follows it
choice : (b : Bool) (one two : Lexeme) → 1 ≤ one.width → 1 ≤ two.width → AtMost 1 (cond b (Ok two) (Ok one))
unfolding AtMost
choice true one two h k = k
choice false one two h k = h

left_paren : (rest : List ℕ) → AtMost 1 (lexeme_at (40 ∷ rest))
unfolding lexeme_at
left_paren rest = choice (eqb (get_or rest 0 0) 47) (record { kind = kind.LeftParen; word = []; number = 0; width = 1 }) (record { kind = kind.LeftArray; word = []; number = 0; width = 2 }) (omega arith) (omega arith)

colon : (rest : List ℕ) → AtMost 1 (lexeme_at (58 ∷ rest))
unfolding lexeme_at
colon rest = choice (eqb (get_or rest 0 0) 58) (record { kind = kind.Colon; word = []; number = 0; width = 1 }) (record { kind = kind.DoubleColon; word = []; number = 0; width = 2 }) (omega arith) (omega arith)

single : (s : ℕ) (bytes : List ℕ) (n : ℕ) → n ≤ length bytes → take n bytes ≡ s ∷ [] → ((rest : List ℕ) → AtMost 1 (lexeme_at (s ∷ rest))) → AtMost n (lexeme_at bytes)
single s bytes n le h k = let one = one_byte bytes n s le h in rw (one.1, one.2) (k one.0)

double : (s t : ℕ) (bytes : List ℕ) (n : ℕ) → n ≤ length bytes → take n bytes ≡ s ∷ t ∷ [] → ((rest : List ℕ) → AtMost 2 (lexeme_at (s ∷ t ∷ rest))) → AtMost n (lexeme_at bytes)
double s t bytes n le h k = let two = two_bytes bytes n s t le h in rw (two.1, two.2) (k two.0)

word_spelled : (bytes : List ℕ) (n : ℕ) → n ≤ length bytes → is_name (take n bytes) ≡ true → AtMost n (lexeme_at bytes)
word_spelled [] zero le h = absurd cc
word_spelled [] (suc n) le h = absurd (omega arith)
word_spelled (c ∷ bytes) n le h = word_at_most c bytes n le h

spelled_at_most : (kind : TokenKind) (bytes : List ℕ) (n : ℕ) → n ≤ length bytes → Spells kind (take n bytes) → AtMost n (lexeme_at bytes)
unfolding AtMost lexeme_at
spelled_at_most kind.Hpf bytes n le h = absurd h
spelled_at_most kind.Pipe bytes n le h = absurd h
spelled_at_most kind.End bytes n le h = absurd h
spelled_at_most kind.Word bytes n le h = word_spelled bytes n le h
spelled_at_most kind.Number bytes n le h = number_at_most bytes n le h
spelled_at_most kind.LeftParen bytes n le h = single 40 bytes n le h left_paren
spelled_at_most kind.RightParen bytes n le h = single 41 bytes n le h (λ rest. omega arith)
spelled_at_most kind.LeftArray bytes n le h = double 40 47 bytes n le h (λ rest. omega arith)
spelled_at_most kind.RightArray bytes n le h = double 47 41 bytes n le h (λ rest. omega arith)
spelled_at_most kind.Comma bytes n le h = single 44 bytes n le h (λ rest. omega arith)
spelled_at_most kind.Colon bytes n le h = single 58 bytes n le h colon
spelled_at_most kind.DoubleColon bytes n le h = double 58 58 bytes n le h (λ rest. omega arith)
spelled_at_most kind.Star bytes n le h = single 42 bytes n le h (λ rest. omega arith)
spelled_at_most kind.Plus bytes n le h = single 43 bytes n le h (λ rest. omega arith)
spelled_at_most kind.Minus bytes n le h = single 45 bytes n le h (λ rest. omega arith)
spelled_at_most kind.Equals bytes n le h = single 61 bytes n le h (λ rest. omega arith)

-- ---- what is found is spelled there

-- a token at the front of bytes, or any fault
record IsAt (found : Lexeme) (bytes : List ℕ) : Type 0 where
  some : 0 < found.width
  within : found.width ≤ length bytes
  spells : Spells found.kind (take found.width bytes)
  word : found.word ≡ word_of found.kind (take found.width bytes)
  number : found.number ≡ number_in found.kind (take found.width bytes)

Found : List ℕ → Result Lexeme Fault → Type 0
Found bytes (Ok found) = IsAt found bytes
Found bytes (Err f) = Unit {0}

found_if : (bytes : List ℕ) (b : Bool) (x y : Result Lexeme Fault) → (b ≡ true → Found bytes x) → (b ≡ false → Found bytes y) → Found bytes (cond b x y)
found_if bytes true x y h k = h refl
found_if bytes false x y h k = k refl

take_spelled : (bytes : List ℕ) → take (length (spelled bytes)) bytes ≡ spelled bytes
take_spelled bytes = ap (λ (n : ℕ). take n bytes) (length-take-le (prefix_len is_name_byte bytes) bytes (prefix_len-le-length is_name_byte bytes))

spelled_within : (bytes : List ℕ) → length (spelled bytes) ≤ length bytes
spelled_within bytes = omega (arith, length-take-le (prefix_len is_name_byte bytes) bytes (prefix_len-le-length is_name_byte bytes), prefix_len-le-length is_name_byte bytes)

spelled_some : (c : ℕ) (rest : List ℕ) → (is_letter c || is_digit c) ≡ true → 0 < length (spelled (c ∷ rest))
spelled_some c rest h =
    let passes : is_name_byte c ≡ true = or_left _ _ h in
    let here : spelled (c ∷ rest) ≡ c ∷ spelled rest = take_while-cons is_name_byte c rest ∙ cond-true (is_name_byte c) (c ∷ spelled rest) [] passes in
    omega (arith, ap length here)

word_found : (c : ℕ) (rest : List ℕ) → is_letter c ≡ true → Found (c ∷ rest) (word_at (c ∷ rest))
unfolding Found
word_found c rest letter =
    let bytes = c ∷ rest in
    found_if bytes (leb (length (spelled bytes)) 31) _ _ (λ short. record {
      some = spelled_some c rest (or_left (is_letter c) (is_digit c) letter);
      within = spelled_within bytes;
      spells = rw (take_spelled bytes) (name_spelled bytes (omega arith) letter ∙ short);
      word = ap (map upper) (sym (take_spelled bytes));
      number = refl;
    }) (λ _. tt)

number_found : (c : ℕ) (rest : List ℕ) → is_digit c ≡ true → Found (c ∷ rest) (number_at (c ∷ rest))
unfolding Found
number_found c rest digit =
    let bytes = c ∷ rest in
    found_if bytes (list_all is_digit (spelled bytes) && leb (number_of (spelled bytes)) max_number) _ _ (λ h.
    let parts = and_parts (list_all is_digit (spelled bytes)) (leb (number_of (spelled bytes)) max_number) h in
    let numeral : IsNumeral (spelled bytes) = record { some = spelled_some c rest (or_right (is_letter c) (is_digit c) digit); digits = parts.0; small = leb-true (number_of (spelled bytes)) max_number parts.1 } in
    record {
      some = spelled_some c rest (or_right (is_letter c) (is_digit c) digit);
      within = spelled_within bytes;
      spells = subst IsNumeral (sym (take_spelled bytes)) numeral;
      word = refl;
      number = ap number_of (sym (take_spelled bytes));
    }) (λ _. tt)

pair_is : (c s t : ℕ) (rest : List ℕ) → 0 < t → (eqb c s && eqb (get_or rest 0 0) t) ≡ true → (others : List ℕ) × (c ∷ rest ≡ s ∷ t ∷ others)
pair_is c s t [] some h = absurd (omega (arith, eqb-true 0 t (and_parts (eqb c s) (eqb 0 t) h).1))
pair_is c s t (d ∷ rest) some h =
    let parts = and_parts (eqb c s) (eqb d t) h in
    let first : c ≡ s = eqb-true c s parts.0 in
    let second : d ≡ t = eqb-true d t parts.1 in
    (rest, rw (first, second) refl)

pair_found : (c s t : ℕ) (rest : List ℕ) (r : Result Lexeme Fault) → 0 < t → ((others : List ℕ) → Found (s ∷ t ∷ others) r) → (eqb c s && eqb (get_or rest 0 0) t) ≡ true → Found (c ∷ rest) r
pair_found c s t rest r some k h = let pair = pair_is c s t rest some h in subst (λ (x : List ℕ). Found x r) (sym pair.1) (k pair.0)

byte_found : (c s : ℕ) (rest : List ℕ) (r : Result Lexeme Fault) → Found (s ∷ rest) r → eqb c s ≡ true → Found (c ∷ rest) r
byte_found c s rest r k h = subst (λ (x : ℕ). Found (x ∷ rest) r) (sym (eqb-true c s h)) k

sign_found : (c : ℕ) (rest : List ℕ) → Found (c ∷ rest) (sign_at c (get_or rest 0 0))
unfolding Found
sign_found c rest =
    found_if (c ∷ rest) (eqb c 40 && eqb (get_or rest 0 0) 47) (sign kind.LeftArray 2) _
    (pair_found c 40 47 rest (sign kind.LeftArray 2) (omega arith) (λ others. record { some = omega arith; within = omega arith; spells = refl; word = refl; number = refl }))
    (λ _. found_if (c ∷ rest) (eqb c 47 && eqb (get_or rest 0 0) 41) (sign kind.RightArray 2) _
    (pair_found c 47 41 rest (sign kind.RightArray 2) (omega arith) (λ others. record { some = omega arith; within = omega arith; spells = refl; word = refl; number = refl }))
    (λ _. found_if (c ∷ rest) (eqb c 58 && eqb (get_or rest 0 0) 58) (sign kind.DoubleColon 2) _
    (pair_found c 58 58 rest (sign kind.DoubleColon 2) (omega arith) (λ others. record { some = omega arith; within = omega arith; spells = refl; word = refl; number = refl }))
    (λ _. found_if (c ∷ rest) (eqb c 40) (sign kind.LeftParen 1) _
    (byte_found c 40 rest (sign kind.LeftParen 1) (record { some = omega arith; within = omega arith; spells = refl; word = refl; number = refl }))
    (λ _. found_if (c ∷ rest) (eqb c 41) (sign kind.RightParen 1) _
    (byte_found c 41 rest (sign kind.RightParen 1) (record { some = omega arith; within = omega arith; spells = refl; word = refl; number = refl }))
    (λ _. found_if (c ∷ rest) (eqb c 44) (sign kind.Comma 1) _
    (byte_found c 44 rest (sign kind.Comma 1) (record { some = omega arith; within = omega arith; spells = refl; word = refl; number = refl }))
    (λ _. found_if (c ∷ rest) (eqb c 58) (sign kind.Colon 1) _
    (byte_found c 58 rest (sign kind.Colon 1) (record { some = omega arith; within = omega arith; spells = refl; word = refl; number = refl }))
    (λ _. found_if (c ∷ rest) (eqb c 42) (sign kind.Star 1) _
    (byte_found c 42 rest (sign kind.Star 1) (record { some = omega arith; within = omega arith; spells = refl; word = refl; number = refl }))
    (λ _. found_if (c ∷ rest) (eqb c 43) (sign kind.Plus 1) _
    (byte_found c 43 rest (sign kind.Plus 1) (record { some = omega arith; within = omega arith; spells = refl; word = refl; number = refl }))
    (λ _. found_if (c ∷ rest) (eqb c 45) (sign kind.Minus 1) _
    (byte_found c 45 rest (sign kind.Minus 1) (record { some = omega arith; within = omega arith; spells = refl; word = refl; number = refl }))
    (λ _. found_if (c ∷ rest) (eqb c 61) (sign kind.Equals 1) _
    (byte_found c 61 rest (sign kind.Equals 1) (record { some = omega arith; within = omega arith; spells = refl; word = refl; number = refl }))
    (λ _. tt)))))))))))

found_nothing : Found [] (sign_at 0 0)
unfolding Found
found_nothing = tt

found_there : (bytes : List ℕ) → Found bytes (lexeme_at bytes)
unfolding lexeme_at
found_there [] = found_nothing
found_there (c ∷ rest) =
    found_if (c ∷ rest) (is_letter c) (word_at (c ∷ rest)) (cond (is_digit c) (number_at (c ∷ rest)) (sign_at c (get_or rest 0 0))) (word_found c rest)
    (λ _. found_if (c ∷ rest) (is_digit c) (number_at (c ∷ rest)) (sign_at c (get_or rest 0 0)) (number_found c rest) (λ _. sign_found c rest))

-- ---- both

pub is_longest : (bytes : List ℕ) (found : Lexeme) → lexeme_at bytes ≡ Ok found → IsLongest found bytes
unfolding Found AtMost
is_longest bytes found e =
    let there : IsAt found bytes = rw e at (found_there bytes) in
    record {
      within = there.within;
      spells = there.spells;
      word = there.word;
      number = there.number;
      longest = λ kind m lt le h. absurd (omega (arith, rw e at (spelled_at_most kind bytes m le h)));
    }

-- and it has at least one byte
pub token_some : (bytes : List ℕ) (found : Lexeme) → lexeme_at bytes ≡ Ok found → 0 < found.width
unfolding Found
token_some bytes found e = let there : IsAt found bytes = rw e at (found_there bytes) in there.some

pub no_token : (bytes : List ℕ) → lexeme_at bytes ≡ Err BadByte → (kind : TokenKind) (m : ℕ) → m ≤ length bytes → Spells kind (take m bytes) → ⊥
unfolding AtMost
no_token bytes e kind m le h = rw e at (spelled_at_most kind bytes m le h)
