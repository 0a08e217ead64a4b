-- The tokens of a text are proper: its words are names in upper case, and its numbers aren't too great.
use Rattle.std.proofs.Common.{◌≡◌, ℕ, zero, suc, ◌+◌, Bool, true, false, cond, ◌&&◌, eqb, leb, List, [], ◌∷◌, ◌++◌, map, length, get_or, take, drop, Result, Ok, Err, refl, sym, ap, subst, arith, inl, inr}
use Rattle.std.specs.List.{AllByRecursion, flat_map, list_all}
use Rattle.std.proofs.lemmas.Bool.{cases_Bool, and_parts, and_from}
use Rattle.std.proofs.lemmas.Bool.Decides.{nat_tests}
use Rattle.std.proofs.lemmas.List.{length-map}
use Rattle.hpf_lex.specs.declared.lexeme.Lexeme.{Lexeme}
use Rattle.hpf_lex.specs.declared.place.Place.{Place}
use Rattle.hpf_lex.specs.declared.refusal.Fault.{Fault}
use Rattle.hpf_lex.specs.declared.token.Token.{Token}
use Rattle.hpf_lex.specs.declared.token.TokenKind.{TokenKind}
use Rattle.hpf_lex.specs.declared.token.TokenKind.TheVariants as kind
use Rattle.hpf_lex.specs.declared.line.Form.{Form}
use Rattle.hpf_lex.specs.declared.line.Form.TheVariants.{Fortran, Directive, Pipeline}
use Rattle.hpf_lex.specs.Bytes.{is_blank, is_letter, is_name_byte, upper}
use Rattle.hpf_lex.specs.Follows.{IsProper}
use Rattle.hpf_lex.specs.Name.{is_name}
use Rattle.hpf_lex.specs.Lexeme.{lexeme_at}
use Rattle.hpf_lex.specs.Line.{Part, lines_of, parts_of}
use Rattle.hpf_lex.specs.Spelling.{Spells, word_of, number_in}
use Rattle.hpf_lex.specs.Statement.{Mark, token, fault, mark_at, mark_here, covered_behind, marks, ends_open, own_text, prefix_kind, prefix_token, prefix_marks, first_marks, later_marks, place, past_last, closing, Statement, last_part, statements, statement_marks, text_marks}
use Rattle.hpf_lex.specs.Text.{HasTokens, tokens_of}
use Rattle.hpf_lex.proofs.Longest.{is_longest}
use Rattle.hpf_lex.proofs.Order.{no_faults}

-- ---- a name in upper case

upper_letter : (c : ℕ) → is_letter c ≡ true → is_letter (upper c) ≡ true
upper_letter c h = grind (arith, nat_tests)

upper_name_byte : (c : ℕ) → is_name_byte c ≡ true → is_name_byte (upper c) ≡ true
upper_name_byte c h = grind (arith, nat_tests)

upper_twice : (c : ℕ) → upper (upper c) ≡ upper c
upper_twice c = grind (arith, nat_tests)

upper_all : (bytes : List ℕ) → list_all is_name_byte bytes ≡ true → list_all is_name_byte (map upper bytes) ≡ true
upper_all [] h = refl
upper_all (c ∷ bytes) h =
    let parts = and_parts (is_name_byte c) (list_all is_name_byte bytes) h in
    and_from _ _ (upper_name_byte c parts.0) (upper_all bytes parts.1)

upper_name : (bytes : List ℕ) → is_name bytes ≡ true → is_name (map upper bytes) ≡ true
upper_name [] h = absurd cc
upper_name (c ∷ bytes) h =
    let parts = and_parts (is_letter c && list_all is_name_byte bytes) (leb (length (c ∷ bytes)) 31) h in
    let front = and_parts (is_letter c) (list_all is_name_byte bytes) parts.0 in
    let long : length (map upper bytes) ≡ length bytes = length-map bytes upper in
    and_from _ _ (and_from _ _ (upper_letter c front.0) (upper_all bytes front.1)) (rw long parts.1)

upper_is_upper : (bytes : List ℕ) → map upper (map upper bytes) ≡ map upper bytes
upper_is_upper [] = refl
upper_is_upper (c ∷ bytes) = rw (upper_twice c) (ap (λ (cs : List ℕ). upper c ∷ cs) (upper_is_upper bytes))

-- ---- one token

proper_by_kind : (kind : TokenKind) (word : List ℕ) (number : ℕ) (line column : ℕ) (bytes : List ℕ) → Spells kind bytes → word ≡ word_of kind bytes → number ≡ number_in kind bytes
    → IsProper (record { kind = kind; word = word; number = number; line = line; column = column })
proper_by_kind kind.Word word number line column bytes h w n = record {
  name = λ _. rw w (upper_name bytes h);
  upper_case = λ _. rw w (upper_is_upper bytes);
  small = λ e. absurd cc;
}
proper_by_kind kind.Number word number line column bytes h w n = record {
  name = λ e. absurd cc;
  upper_case = λ e. absurd cc;
  small = λ _. rw n h.small;
}
proper_by_kind _ word number line column bytes h w n = record { name = λ e. absurd cc; upper_case = λ e. absurd cc; small = λ e. absurd cc }

bare_proper : (sort : TokenKind) (line column : ℕ) → (sort ≡ kind.Word → ⊥) → (sort ≡ kind.Number → ⊥) → IsProper (record { kind = sort; word = []; number = 0; line = line; column = column })
bare_proper sort line column word number = record { name = λ e. absurd (word e); upper_case = λ e. absurd (word e); small = λ e. absurd (number e) }

-- ---- marks

AllProper : List Mark → Type 0
AllProper ms = AllByRecursion IsProper (tokens_of ms)

proper_append : (a b : List Mark) → AllProper a → AllProper b → AllProper (a ++ b)
unfolding AllProper
proper_append [] b h k = k
proper_append (token t width ∷ a) b h k = (h.0, proper_append a b h.1 k)
proper_append (fault f ∷ a) b h k = proper_append a b h k

proper_flat : {X : Type 0} (f : X → List Mark) → ((x : X) → AllProper (f x)) → (xs : List X) → AllProper (flat_map f xs)
unfolding AllProper
proper_flat f h [] = tt
proper_flat f h (x ∷ xs) = proper_append (f x) (flat_map f xs) (h x) (proper_flat f h xs)

mark_proper : (line column : ℕ) (bytes : List ℕ) → AllProper (mark_at line column (lexeme_at bytes) ∷ [])
unfolding AllProper
mark_proper line column bytes = by_lexeme (lexeme_at bytes) refl where
  by_lexeme : (r : Result Lexeme Fault) → lexeme_at bytes ≡ r → AllProper (mark_at line column r ∷ [])
  by_lexeme (Ok found) e =
      let longest = is_longest bytes found e in
      (proper_by_kind found.kind found.word found.number line column (take found.width bytes) longest.spells longest.word longest.number, tt)
  by_lexeme (Err f) e = tt

here_proper : (line column : ℕ) (bytes : List ℕ) → AllProper (mark_here line column bytes)
unfolding AllProper
here_proper line column bytes = by_blank (is_blank (get_or bytes 0 0)) where
  by_blank : (b : Bool) → AllProper (cond b [] (mark_at line column (lexeme_at bytes) ∷ []))
  by_blank true = tt
  by_blank false = mark_proper line column bytes

marks_proper : (line column taken : ℕ) (bytes : List ℕ) → AllProper (marks line column taken bytes)
unfolding marks AllProper
marks_proper line column taken [] = tt
marks_proper line column (suc taken) (c ∷ bytes) = marks_proper line (column + 1) taken bytes
marks_proper line column zero (c ∷ bytes) =
    proper_append (mark_here line column (c ∷ bytes)) (marks line (column + 1) (covered_behind (c ∷ bytes)) bytes)
    (here_proper line column (c ∷ bytes)) (marks_proper line (column + 1) (covered_behind (c ∷ bytes)) bytes)

prefix_proper : (form : Form) (part : Part) → AllProper (prefix_token (prefix_kind form) part)
unfolding AllProper
prefix_proper Fortran part = tt
prefix_proper Directive part = (bare_proper kind.Hpf part.line part.start (λ e. absurd cc) (λ e. absurd cc), tt)
prefix_proper Pipeline part = (bare_proper kind.Pipe part.line part.start (λ e. absurd cc) (λ e. absurd cc), tt)

first_proper : (part : Part) → AllProper (first_marks part)
unfolding first_marks prefix_marks
first_proper part =
    proper_append (prefix_marks part) (marks part.line part.column 0 (own_text part))
    (prefix_proper part.form part) (marks_proper part.line part.column 0 (own_text part))

later_proper : (part : Part) → AllProper (later_marks part)
unfolding later_marks
later_proper part = by_test (eqb (get_or (own_text part) 0 0) 38) where
  by_test : (b : Bool) → AllProper (cond b (marks part.line (part.column + 1) 0 (drop 1 (own_text part))) (marks part.line part.column 0 (own_text part)))
  by_test true = marks_proper part.line (part.column + 1) 0 (drop 1 (own_text part))
  by_test false = marks_proper part.line part.column 0 (own_text part)

closing_proper : (last : Part) (past : Place) → AllProper (closing last past ∷ [])
unfolding AllProper
closing_proper last past =
    elim (cases_Bool (ends_open last)) [
      | inl e ↦ rw e tt
      | inr e ↦ rw e (bare_proper kind.End past.line past.column (λ e. absurd cc) (λ e. absurd cc), tt)
    ]

statement_proper : (statement : Statement) → AllProper (statement_marks statement)
unfolding statement_marks
statement_proper statement =
    let inner = first_marks statement.first ++ flat_map later_marks statement.later in
    let last = last_part statement.first statement.later in
    proper_append inner (closing last (past_last (place statement.first.line statement.first.start) inner) ∷ [])
    (proper_append (first_marks statement.first) (flat_map later_marks statement.later) (first_proper statement.first) (proper_flat later_marks later_proper statement.later))
    (closing_proper last (past_last (place statement.first.line statement.first.start) inner))

-- ---- a text

pub tokens_proper : (text : List ℕ) (tokens : List Token) → HasTokens text tokens → AllByRecursion IsProper tokens
unfolding text_marks AllProper
tokens_proper text tokens h =
    let whole = no_faults text tokens h in
    let all : AllProper (text_marks text) = proper_flat statement_marks statement_proper (statements (parts_of 1 (lines_of text))) in
    subst (AllByRecursion IsProper) (sym whole.2) all
