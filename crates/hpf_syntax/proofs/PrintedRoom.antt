-- What tokens say of the tree that is printed from them: its names and numbers are proper, and there are enough tokens
-- for its printed text.
use Rattle.std.proofs.Common.{◌≡◌, ℕ, ◌+◌, ◌≤◌, Bool, true, false, ◌||◌, List, [], ◌∷◌, ◌++◌, length, map, refl, sym, ap, ◌∙◌, arith}
use Rattle.std.specs.Prelude.{IsTrue, if◌then◌else◌}
use Rattle.std.specs.List.{AllByRecursion}
use Rattle.std.specs.Str.{bytes_eq}
use Rattle.std.proofs.lemmas.List.{length-append}
use Rattle.hpf_lex.specs.declared.token.Token.{Token}
use Rattle.hpf_lex.specs.declared.token.TokenKind.{TokenKind}
use Rattle.hpf_lex.specs.declared.token.TokenKind.TheVariants as kind
use Rattle.hpf_lex.specs.Bytes.{upper}
use Rattle.hpf_lex.specs.Name.{is_name}
use Rattle.hpf_lex.specs.Lexeme.{max_number}
use Rattle.hpf_lex.specs.Follows.{IsProper}
use Rattle.hpf_syntax.specs.declared.terminal.Terminal.{Terminal}
use Rattle.hpf_syntax.specs.declared.terminal.Terminal.TheVariants as terminal
use Rattle.hpf_syntax.specs.Terminal.{Is, same, number_of, spelling, reserved_words, word_among, word_terminal, kind_terminal, token_terminal}
use Rattle.hpf_syntax.specs.Plain.{Tree, Number, Name, Neg, Plus, Minus, Times}
use Rattle.hpf_syntax.specs.Expressions.{Part, Expression, Term, Factor, IsA, number, name, parenthesized, factor, times, term, positive, negative, plus, minus}
use Rattle.hpf_syntax.specs.Canonical.{is_sum, is_product}
use Rattle.hpf_syntax.proofs.Terminals.{member, same_refl, false_is_not_true, or_false}

-- ---- the kind of a token that is a number or a name

is_none_of : (b : Bool) (v w rest : Terminal) → (v ≡ w → ⊥) → (rest ≡ w → ⊥) → (if b then v else rest) ≡ w → ⊥
is_none_of true v w rest here behind e = here e
is_none_of false v w rest here behind e = behind e

not_same : (v w : Terminal) → same w v ≡ false → v ≡ w → ⊥
not_same v w out e = false_is_not_true (sym out ∙ ap (λ (x : Terminal). same w x) e ∙ same_refl w)

name_is_no_number : terminal.Name ≡ terminal.Number → ⊥
name_is_no_number e = cc

-- no word is a number
no_number : (words : List Terminal) (bytes : List ℕ) → member terminal.Number words ≡ false → word_among words bytes ≡ terminal.Number → ⊥
unfolding word_among
no_number [] bytes none e = name_is_no_number e
no_number (word ∷ words) bytes none e =
    let apart = or_false (same terminal.Number word) (member terminal.Number words) none in
    is_none_of (bytes_eq bytes (spelling word)) word terminal.Number (word_among words bytes) (not_same word terminal.Number apart.0) (no_number words bytes apart.1) e

number_not_reserved : member terminal.Number reserved_words ≡ false
unfolding same number_of
number_not_reserved = refl

no_number_word : (bytes : List ℕ) → word_terminal bytes ≡ terminal.Number → ⊥
unfolding word_terminal
no_number_word bytes e = no_number reserved_words bytes number_not_reserved e

number_kind : (k : TokenKind) (bytes : List ℕ) → kind_terminal k bytes ≡ terminal.Number → k ≡ kind.Number
unfolding kind_terminal
number_kind kind.Number bytes e = refl
number_kind kind.Word bytes e = absurd (no_number_word bytes e)
number_kind _ bytes e = cc

name_kind : (k : TokenKind) (bytes : List ℕ) → kind_terminal k bytes ≡ terminal.Name → (k ≡ kind.Word) × (word_terminal bytes ≡ terminal.Name)
unfolding kind_terminal
name_kind kind.Word bytes e = (refl, e)
name_kind _ bytes e = cc

pub is_number : (t : Token) → Is terminal.Number t → t.kind ≡ kind.Number
unfolding token_terminal
is_number t e = number_kind t.kind t.word e

pub is_name_word : (t : Token) → Is terminal.Name t → (t.kind ≡ kind.Word) × (word_terminal t.word ≡ terminal.Name)
unfolding token_terminal
is_name_word t e = name_kind t.kind t.word e

-- ---- names and numbers

-- bytes that are a name as it is printed
pub record IsWritten (word : List ℕ) : Type 0 where
  pub name : IsTrue (is_name word)
  pub upper_case : map upper word ≡ word
  pub free : word_terminal word ≡ terminal.Name

-- the names and numbers of a tree are such as a text can have
abbrev pub IsSound : Tree → Type 0
IsSound (Number at n) = n ≤ max_number
IsSound (Name at word) = IsWritten word
IsSound (Neg at e) = IsSound e
IsSound (Plus at a b) = IsSound a × IsSound b
IsSound (Minus at a b) = IsSound a × IsSound b
IsSound (Times at a b) = IsSound a × IsSound b

pub all_front : {A : Type 0} (P : A → Type 0) (xs ys : List A) → AllByRecursion P (xs ++ ys) → AllByRecursion P xs
all_front P [] ys all = tt
all_front P (x ∷ xs) ys all = (all.0, all_front P xs ys all.1)

pub all_back : {A : Type 0} (P : A → Type 0) (xs ys : List A) → AllByRecursion P (xs ++ ys) → AllByRecursion P ys
all_back P [] ys all = all
all_back P (x ∷ xs) ys all = all_back P xs ys all.1

pub written : (t : Token) → Is terminal.Name t → IsProper t → IsWritten t.word
written t is proper =
    let word = is_name_word t is in
    record { name = proper.name word.0; upper_case = proper.upper_case word.0; free = word.1 }

pub sound : {part : Part} {ts : List Token} {e : Tree} → IsA part ts e → AllByRecursion IsProper ts → IsSound e
sound (number t is) all = all.0.small (is_number t is)
sound (name t is) all = written t is all.0
sound (parenthesized l r {ts = ts} isl h isr) all = sound h (all_front IsProper ts (r ∷ []) all.1)
sound (factor h) all = sound h all
sound (times t {front = front} {back = back} h is i) all = (sound h (all_front IsProper front (t ∷ back) all), sound i (all_back IsProper front (t ∷ back) all).1)
sound (term h) all = sound h all
sound (positive t is h) all = sound h all.1
sound (negative t is h) all = sound h all.1
sound (plus t {front = front} {back = back} h is i) all = (sound h (all_front IsProper front (t ∷ back) all), sound i (all_back IsProper front (t ∷ back) all).1)
sound (minus t {front = front} {back = back} h is i) all = (sound h (all_front IsProper front (t ∷ back) all), sound i (all_back IsProper front (t ∷ back) all).1)

-- ---- how many tokens are printed

-- with two parentheses where they are needed
abbrev pub room_of : Bool → ℕ → ℕ
room_of needed n = if needed then n + 2 else n

-- the tokens of a tree's printed text
abbrev pub count : Tree → ℕ
count (Number at n) = 1
count (Name at word) = 1
count (Neg at e) = 1 + room_of (is_sum e) (count e)
count (Plus at a b) = count a + (1 + room_of (is_sum b) (count b))
count (Minus at a b) = count a + (1 + room_of (is_sum b) (count b))
count (Times at a b) = room_of (is_sum a) (count a) + (1 + room_of (is_sum b || is_product b) (count b))

-- whether a tree is in parentheses where it is this part of an expression
abbrev pub needs : Part → Tree → Bool
needs Expression e = false
needs Term e = is_sum e
needs Factor e = is_sum e || is_product e

-- the tokens of its printed text there
abbrev pub room : Part → Tree → ℕ
room part e = room_of (needs part e) (count e)

room_least : (needed : Bool) (n : ℕ) → n ≤ room_of needed n
room_least true n = omega arith
room_least false n = omega arith

room_most : (needed : Bool) (n : ℕ) → room_of needed n ≤ n + 2
room_most true n = omega arith
room_most false n = omega arith

room_or : (a b : Bool) (n : ℕ) → room_of a n ≤ room_of (a || b) n
room_or true b n = omega arith
room_or false b n = room_least b n

parentheses_fit : (m k : ℕ) (ts : List Token) (l r : Token) → m ≤ k + 2 → k ≤ length ts → m ≤ length (l ∷ (ts ++ r ∷ []))
parentheses_fit m k ts l r above fits = omega (arith, above, fits, length-append ts (r ∷ []))

operands_fit : (m n : ℕ) (front back : List Token) (t : Token) → m ≤ length front → n ≤ length back → m + (1 + n) ≤ length (front ++ t ∷ back)
operands_fit m n front back t left right = omega (arith, left, right, length-append front (t ∷ back))

sign_fits : (n : ℕ) (ts : List Token) (t : Token) → n ≤ length ts → 1 + n ≤ length (t ∷ ts)
sign_fits n ts t fits = omega (arith, fits)

at_most : (k m n : ℕ) → k ≤ m → m ≤ n → k ≤ n
at_most k m n p q = omega (arith, p, q)

-- A tree takes no more tokens where it is printed than where it was read.
pub room_fits : {part : Part} {ts : List Token} {e : Tree} → IsA part ts e → room part e ≤ length ts
room_fits (number t is) = omega arith
room_fits (name t is) = omega arith
room_fits (parenthesized l r {ts = ts} {e = e} isl h isr) = parentheses_fit (room Factor e) (count e) ts l r (room_most (is_sum e || is_product e) (count e)) (room_fits h)
room_fits (factor {ts = ts} {e = e} h) = at_most (room Term e) (room Factor e) (length ts) (room_or (is_sum e) (is_product e) (count e)) (room_fits h)
room_fits (times t {front = front} {back = back} {a = a} {b = b} h is i) = operands_fit (room Term a) (room Factor b) front back t (room_fits h) (room_fits i)
room_fits (term {ts = ts} {e = e} h) = at_most (count e) (room Term e) (length ts) (room_least (is_sum e) (count e)) (room_fits h)
room_fits (positive t {ts = ts} {e = e} is h) =
    let term_fits : room Term e ≤ length ts = room_fits h in
    let least : count e ≤ room Term e = room_least (is_sum e) (count e) in
    at_most (count e) (length ts) (length (t ∷ ts)) (at_most (count e) (room Term e) (length ts) least term_fits) (omega arith)
room_fits (negative t {ts = ts} {e = e} is h) = sign_fits (room Term e) ts t (room_fits h)
room_fits (plus t {front = front} {back = back} {a = a} {b = b} h is i) = operands_fit (count a) (room Term b) front back t (room_fits h) (room_fits i)
room_fits (minus t {front = front} {back = back} {a = a} {b = b} h is i) = operands_fit (count a) (room Term b) front back t (room_fits h) (room_fits i)
