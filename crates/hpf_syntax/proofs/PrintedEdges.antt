-- The first and the last byte of names and of expressions in canonical text.
use Rattle.std.proofs.Common.{◌≡◌, ℕ, ◌<◌, Bool, true, false, ◌&&◌, ◌||◌, List, [], ◌∷◌, ◌++◌, length, refl, sym, ap, ◌∙◌, arith}
use Rattle.std.specs.Prelude.{codes, ◌==◌}
use Rattle.std.specs.List.{list_all}
use Rattle.std.specs.Fmt.{decimal}
use Rattle.std.proofs.lemmas.Bool.{and_parts, and_from, eqb-true, or_left, or_right}
use Rattle.hpf_lex.specs.declared.token.TokenKind.TheVariants as kind
use Rattle.hpf_lex.specs.Bytes.{is_blank, is_letter, is_digit, is_name_byte}
use Rattle.hpf_lex.specs.Name.{is_name}
use Rattle.hpf_lex.specs.Follows.{StopsAt}
use Rattle.hpf_syntax.specs.Plain.{Tree, Number, Name, Neg, Plus, Minus, Times}
use Rattle.hpf_syntax.specs.Canonical.{guarded, is_sum, is_product, expression_text}
use Rattle.hpf_syntax.proofs.Terminals.{false_is_not_true}
use Rattle.hpf_syntax.proofs.Lexing.{Lexing}
use Rattle.hpf_syntax.proofs.PrintedCuts.{Opens}
use Rattle.hpf_syntax.proofs.PrintedRules.{EndsWell, ends_append}
use Rattle.hpf_syntax.proofs.PrintedRoom.{IsSound}

-- bytes, the first of which is no `/` (47) and no `:` (58)
abbrev pub Leads : List ℕ → Type 0
Leads [] = ⊥
Leads (c ∷ rest) = ((c == 47) ≡ false) × ((c == 58) ≡ false)

pub leads_append : (a b : List ℕ) → Leads a → Leads (a ++ b)
leads_append [] b h = absurd h
leads_append (c ∷ a) b h = h

pub leads_opens : (a : List ℕ) → Leads a → Opens a
leads_opens [] h = absurd h
leads_opens (c ∷ a) h = h.0

pub colon_stops : (a b : List ℕ) → Leads a → StopsAt kind.Colon (a ++ b)
colon_stops [] b h = absurd h
colon_stops (c ∷ a) b h = h.1

abbrev pub Edges : List ℕ → Type 0
Edges text = Leads text × EndsWell text

-- ---- letters, digits and `_`

other_byte : (c d : ℕ) → is_name_byte c ≡ true → is_name_byte d ≡ false → (c == d) ≡ false
other_byte c d h k = by_test (c == d) refl where
  by_test : (b : Bool) → (c == d) ≡ b → b ≡ false
  by_test false e = refl
  by_test true e = absurd (false_is_not_true (sym k ∙ sym (ap (λ (x : ℕ). is_name_byte x) (eqb-true c d e)) ∙ h))

no_blank : (c : ℕ) → is_name_byte c ≡ true → is_blank c ≡ false
unfolding is_blank
no_blank c h = rw (other_byte c 32 h refl, other_byte c 9 h refl) refl

ends_of : (bytes : List ℕ) → list_all is_name_byte bytes ≡ true → EndsWell bytes
ends_of [] h = tt
ends_of (c ∷ []) h = no_blank c (and_parts (is_name_byte c) true h).0
ends_of (c ∷ d ∷ bytes) h = ends_of (d ∷ bytes) (and_parts (is_name_byte c) (list_all is_name_byte (d ∷ bytes)) h).1

leads_of : (bytes : List ℕ) → 0 < length bytes → list_all is_name_byte bytes ≡ true → Leads bytes
leads_of [] some h = absurd (omega (arith, some))
leads_of (c ∷ bytes) some h =
    let here = (and_parts (is_name_byte c) (list_all is_name_byte bytes) h).0 in
    (other_byte c 47 here refl, other_byte c 58 here refl)

name_bytes : (bytes : List ℕ) → is_name bytes ≡ true → (0 < length bytes) × (list_all is_name_byte bytes ≡ true)
name_bytes [] h = absurd (false_is_not_true h)
name_bytes (c ∷ bytes) h =
    let front = and_parts (is_letter c) (list_all is_name_byte bytes) (and_parts (is_letter c && list_all is_name_byte bytes) _ h).0 in
    (omega arith, and_from (is_name_byte c) (list_all is_name_byte bytes) (or_left _ _ (or_left _ _ front.0)) front.1)

digit_bytes : (bytes : List ℕ) → list_all is_digit bytes ≡ true → list_all is_name_byte bytes ≡ true
digit_bytes [] h = refl
digit_bytes (c ∷ bytes) h =
    let parts = and_parts (is_digit c) (list_all is_digit bytes) h in
    and_from (is_name_byte c) (list_all is_name_byte bytes) (or_left _ _ (or_right (is_letter c) (is_digit c) parts.0)) (digit_bytes bytes parts.1)

pub name_edges : (bytes : List ℕ) → is_name bytes ≡ true → Edges bytes
name_edges bytes h = let facts = name_bytes bytes h in (leads_of bytes facts.0 facts.1, ends_of bytes facts.1)

-- ---- expressions

guarded_edges : (needed : Bool) (text : List ℕ) → Edges text → Edges (guarded needed text)
unfolding is_blank
guarded_edges true text h = ((refl, refl), ends_append (codes "(") (text ++ codes ")") refl (ends_append text (codes ")") h.1 refl))
guarded_edges false text h = h

joined_edges : (sign : ℕ) (a b : List ℕ) → is_blank sign ≡ false → Edges a → Edges b → Edges (a ++ sign ∷ b)
joined_edges sign a b seen h k = (leads_append a (sign ∷ b) h.0, ends_append a (sign ∷ b) h.1 (ends_append (sign ∷ []) b seen k.1))

pub expression_edges : Lexing → (e : Tree) → IsSound e → Edges (expression_text e)
unfolding is_blank
expression_edges laws (Number at n) s =
    let numeral = (laws.numeral n s).0 in
    let all = digit_bytes (decimal n) numeral.digits in
    (leads_of (decimal n) numeral.some all, ends_of (decimal n) all)
expression_edges laws (Name at word) s = name_edges word s.name
expression_edges laws (Neg at e) s =
    let operand = guarded_edges (is_sum e) (expression_text e) (expression_edges laws e s) in
    ((refl, refl), ends_append (codes "-") (guarded (is_sum e) (expression_text e)) refl operand.1)
expression_edges laws (Plus at a b) s =
    joined_edges 43 (expression_text a) (guarded (is_sum b) (expression_text b)) refl (expression_edges laws a s.0) (guarded_edges (is_sum b) (expression_text b) (expression_edges laws b s.1))
expression_edges laws (Minus at a b) s =
    joined_edges 45 (expression_text a) (guarded (is_sum b) (expression_text b)) refl (expression_edges laws a s.0) (guarded_edges (is_sum b) (expression_text b) (expression_edges laws b s.1))
expression_edges laws (Times at a b) s =
    let right : Bool = is_sum b || is_product b in
    joined_edges 42 (guarded (is_sum a) (expression_text a)) (guarded right (expression_text b)) refl
    (guarded_edges (is_sum a) (expression_text a) (expression_edges laws a s.0)) (guarded_edges right (expression_text b) (expression_edges laws b s.1))
