-- A token is found where it is spelled, if what stands behind doesn't go on with it.
use Rattle.std.proofs.Common.{◌≡◌, ℕ, ◌≤◌, true, false, ◌&&◌, leb, List, [], ◌∷◌, ◌++◌, length, get_or, Ok, refl, ap, ◌∙◌, arith}
use Rattle.std.specs.List.{list_all}
use Rattle.std.proofs.lemmas.Bool.{and_parts, and_from, or_left, le-leb, leb-true, cond-true, cond-false}
use Rattle.std.proofs.lemmas.Bool.Decides.{nat_tests}
use Rattle.std.proofs.lemmas.List.Sums.{take_while-cons}
use Rattle.hpf_lex.specs.declared.lexeme.Lexeme.{Lexeme}
use Rattle.hpf_lex.specs.declared.token.TokenKind.{TokenKind}
use Rattle.hpf_lex.specs.declared.token.TokenKind.TheVariants as kind
use Rattle.hpf_lex.specs.Bytes.{is_blank, is_letter, is_digit, is_name_byte}
use Rattle.hpf_lex.specs.Follows.{StopsAt}
use Rattle.hpf_lex.specs.Name.{is_name}
use Rattle.hpf_lex.specs.Lexeme.{spelled, number_of, max_number, lexeme_at}
use Rattle.hpf_lex.specs.Spelling.{IsNumeral, Spells, word_of, number_in}
use Rattle.hpf_lex.proofs.Longest.{letter_at, digit_at, digits_are_name_bytes}

-- ---- what is spelled ends where the bytes of a name end

abbrev Stops : List ℕ → Type 0
Stops rest = StopsAt kind.Word rest

spelled_front : (front rest : List ℕ) → list_all is_name_byte front ≡ true → Stops rest → spelled (front ++ rest) ≡ front
spelled_front [] [] h k = refl
spelled_front [] (c ∷ rest) h k = take_while-cons is_name_byte c rest ∙ cond-false (is_name_byte c) (c ∷ spelled rest) [] k
spelled_front (c ∷ front) rest h k =
    let parts = and_parts (is_name_byte c) (list_all is_name_byte front) h in
    take_while-cons is_name_byte c (front ++ rest) ∙ cond-true (is_name_byte c) (c ∷ spelled (front ++ rest)) [] parts.0
    ∙ ap (λ (cs : List ℕ). c ∷ cs) (spelled_front front rest parts.1 k)

-- ---- a token of each kind

abbrev lexeme : TokenKind → List ℕ → Lexeme
lexeme kind spelling = record { kind = kind; word = word_of kind spelling; number = number_in kind spelling; width = length spelling }

abbrev FoundAs : TokenKind → List ℕ → List ℕ → Type 0
FoundAs kind spelling rest = lexeme_at (spelling ++ rest) ≡ Ok (lexeme kind spelling)

word_found : (spelling rest : List ℕ) → is_name spelling ≡ true → Stops rest → FoundAs kind.Word spelling rest
word_found [] rest h k = absurd cc
word_found (c ∷ cs) rest h k =
    let parts = and_parts (is_letter c && list_all is_name_byte cs) (leb (length (c ∷ cs)) 31) h in
    let front = and_parts (is_letter c) (list_all is_name_byte cs) parts.0 in
    let all : list_all is_name_byte (c ∷ cs) ≡ true = and_from _ _ (or_left _ _ (or_left _ _ front.0)) front.1 in
    let whole : spelled (c ∷ (cs ++ rest)) ≡ c ∷ cs = spelled_front (c ∷ cs) rest all k in
    let short : leb (length (c ∷ cs)) 31 ≡ true = parts.1 in
    letter_at c (cs ++ rest) front.0 ∙ rw (whole, short) refl

number_found : (spelling rest : List ℕ) → IsNumeral spelling → Stops rest → FoundAs kind.Number spelling rest
number_found [] rest h k = absurd (omega (arith, h.some))
number_found (c ∷ cs) rest h k =
    let front = and_parts (is_digit c) (list_all is_digit cs) h.digits in
    let whole : spelled (c ∷ (cs ++ rest)) ≡ c ∷ cs = spelled_front (c ∷ cs) rest (digits_are_name_bytes (c ∷ cs) h.digits) k in
    let all : list_all is_digit (c ∷ cs) ≡ true = h.digits in
    let small : leb (number_of (c ∷ cs)) max_number ≡ true = le-leb (number_of (c ∷ cs)) max_number h.small in
    digit_at c (cs ++ rest) front.0 ∙ rw (whole, all, small) refl

left_paren_found : (rest : List ℕ) → StopsAt kind.LeftParen rest → lexeme_at (40 ∷ rest) ≡ Ok (lexeme kind.LeftParen (40 ∷ []))
unfolding lexeme_at
left_paren_found [] k = refl
left_paren_found (c ∷ rest) k = rw k refl

colon_found : (rest : List ℕ) → StopsAt kind.Colon rest → lexeme_at (58 ∷ rest) ≡ Ok (lexeme kind.Colon (58 ∷ []))
unfolding lexeme_at
colon_found [] k = refl
colon_found (c ∷ rest) k = rw k refl

pub found_where_spelled : (kind : TokenKind) (spelling rest : List ℕ) → Spells kind spelling → StopsAt kind rest
    → lexeme_at (spelling ++ rest) ≡ Ok (record { kind = kind; word = word_of kind spelling; number = number_in kind spelling; width = length spelling })
unfolding lexeme_at
found_where_spelled kind.Hpf spelling rest h k = absurd h
found_where_spelled kind.Pipe spelling rest h k = absurd h
found_where_spelled kind.End spelling rest h k = absurd h
found_where_spelled kind.Word spelling rest h k = word_found spelling rest h k
found_where_spelled kind.Number spelling rest h k = number_found spelling rest h k
found_where_spelled kind.LeftParen spelling rest h k = rw h (left_paren_found rest k)
found_where_spelled kind.RightParen spelling rest h k = rw h refl
found_where_spelled kind.LeftArray spelling rest h k = rw h refl
found_where_spelled kind.RightArray spelling rest h k = rw h refl
found_where_spelled kind.Comma spelling rest h k = rw h refl
found_where_spelled kind.Colon spelling rest h k = rw h (colon_found rest k)
found_where_spelled kind.DoubleColon spelling rest h k = rw h refl
found_where_spelled kind.Star spelling rest h k = rw h refl
found_where_spelled kind.Plus spelling rest h k = rw h refl
found_where_spelled kind.Minus spelling rest h k = rw h refl
found_where_spelled kind.Equals spelling rest h k = rw h refl

-- ---- and its first byte is no blank

digit_no_blank : (c : ℕ) → is_digit c ≡ true → is_blank c ≡ false
unfolding is_blank
digit_no_blank c h =
    let parts = and_parts (leb 48 c) (leb c 57) h in
    let low : 48 ≤ c = leb-true 48 c parts.0 in
    grind (arith, nat_tests)

letter_no_blank : (c : ℕ) → is_letter c ≡ true → is_blank c ≡ false
unfolding is_blank
letter_no_blank c h = grind (arith, nat_tests)

name_no_blank : (spelling rest : List ℕ) → is_name spelling ≡ true → is_blank (get_or (spelling ++ rest) 0 0) ≡ false
name_no_blank [] rest h = absurd cc
name_no_blank (c ∷ cs) rest h =
    letter_no_blank c (and_parts (is_letter c) (list_all is_name_byte cs) (and_parts (is_letter c && list_all is_name_byte cs) (leb (length (c ∷ cs)) 31) h).0).0

numeral_no_blank : (spelling rest : List ℕ) → IsNumeral spelling → is_blank (get_or (spelling ++ rest) 0 0) ≡ false
numeral_no_blank [] rest h = absurd (omega (arith, h.some))
numeral_no_blank (c ∷ cs) rest h = digit_no_blank c (and_parts (is_digit c) (list_all is_digit cs) h.digits).0

pub no_blank : (kind : TokenKind) (spelling rest : List ℕ) → Spells kind spelling → is_blank (get_or (spelling ++ rest) 0 0) ≡ false
unfolding is_blank
no_blank kind.Hpf spelling rest h = absurd h
no_blank kind.Pipe spelling rest h = absurd h
no_blank kind.End spelling rest h = absurd h
no_blank kind.Word spelling rest h = name_no_blank spelling rest h
no_blank kind.Number spelling rest h = numeral_no_blank spelling rest h
no_blank kind.LeftParen spelling rest h = rw h refl
no_blank kind.RightParen spelling rest h = rw h refl
no_blank kind.LeftArray spelling rest h = rw h refl
no_blank kind.RightArray spelling rest h = rw h refl
no_blank kind.Comma spelling rest h = rw h refl
no_blank kind.Colon spelling rest h = rw h refl
no_blank kind.DoubleColon spelling rest h = rw h refl
no_blank kind.Star spelling rest h = rw h refl
no_blank kind.Plus spelling rest h = rw h refl
no_blank kind.Minus spelling rest h = rw h refl
no_blank kind.Equals spelling rest h = rw h refl
