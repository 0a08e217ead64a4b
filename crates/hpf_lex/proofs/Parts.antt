-- A scan of parts, one after the other.
use Rattle.std.proofs.Common.{◌≡◌, ℕ, ◌+◌, true, false, List, [], ◌∷◌, ◌++◌, length, Option, Some, None, Result, Ok, Err, refl, sym, ap, ◌∙◌, append_assoc, inl, inr}
use Rattle.std.proofs.lemmas.List.{append-nil, nil_from_length, same_from_push}
use Rattle.std.proofs.lemmas.Bool.{cases_Bool, and_parts}
use Rattle.std.specs.List.{flat_map}
use Rattle.hpf_lex.specs.declared.place.Place.{Place}
use Rattle.hpf_lex.specs.declared.refusal.Fault.TheVariants.{DanglingContinuation}
use Rattle.hpf_lex.specs.declared.refusal.MapRefusal.{MapRefusal}
use Rattle.hpf_lex.specs.declared.scan.Pending.{Pending}
use Rattle.hpf_lex.specs.declared.token.Token.{Token}
use Rattle.hpf_lex.specs.declared.token.TokenKind.TheVariants as kind
use Rattle.hpf_lex.specs.Whole.{AreWhole}
use Rattle.hpf_lex.specs.Line.{Part, lines_of, part_of, parts_of, put_part}
use Rattle.hpf_lex.specs.Statement.{Mark, refusal_at, place, own_text, first_marks, later_marks, same_form, ends_open, past_last, end_at, closing, is_continued_by, later_parts, statements_behind, statements, last_part, statement_marks}
use Rattle.hpf_lex.specs.Scanning.{with_front, read, closing_marks, pending_behind, inner_marks, past_inner, part_marks, pending_part, line_marks, pending_line, left_open, scan}
use Rattle.hpf_lex.proofs.Marks.{read-fault, read-none, pushed-append, fault-append, past_last-append}
use Rattle.hpf_lex.proofs.Lines.{lines-none}

-- ---- one part

pub open_closing : (part : Part) (past : Place) → ends_open part ≡ true
    → (closing_marks part past ≡ []) × (pending_behind part past ≡ Some (record { form = part.form; line = part.line; column = part.column + length (own_text part); past = past }))
open_closing part past e = (rw e refl, rw e refl)

pub shut_closing : (part : Part) (past : Place) → ends_open part ≡ false → (closing_marks part past ≡ end_at past ∷ []) × (pending_behind part past ≡ None)
shut_closing part past e = (rw e refl, rw e refl)

pub left_dangling : (pending : Pending) (part : Part) → same_form pending.form part.form ≡ false → read (inner_marks (Some pending) part) ≡ Err (refusal_at DanglingContinuation pending.line pending.column)
unfolding inner_marks
left_dangling pending part e = rw e (read-fault (refusal_at DanglingContinuation pending.line pending.column) (first_marks part))

pub ended : (tokens : List Token) (last : Token) → last.kind ≡ kind.End → AreWhole (tokens ++ last ∷ [])
ended tokens last h front t e = ap (λ (x : Token). x.kind) (sym (same_from_push tokens front last t e).1) ∙ h

-- ---- lines

pub scan-line : (pending : Option Pending) (number : ℕ) (line : List ℕ) (lines : List (List ℕ))
    → scan pending (parts_of number (line ∷ lines)) ≡ line_marks pending (part_of number line) ++ scan (pending_line pending (part_of number line)) (parts_of (number + 1) lines)
unfolding scan parts_of line_marks pending_line
scan-line pending number line lines = by_part (part_of number line) where
  others : List Part
  others = parts_of (number + 1) lines

  by_part : (found : Option Part) → scan pending (put_part found others) ≡ line_marks pending found ++ scan (pending_line pending found) others
  by_part None = refl
  by_part (Some part) = refl

pub scan-none : (pending : Option Pending) (number : ℕ) → scan pending (parts_of number []) ≡ left_open pending
unfolding scan parts_of
scan-none pending number = refl

-- a text's lines, one after the other
module _ (old new : List Token) (pending : Option Pending) (number : ℕ) (rest bytes behind : List ℕ) (all : Result (List Token) MapRefusal) where
  first_of_rest : lines_of rest ≡ bytes ∷ lines_of behind → scan pending (parts_of number (lines_of rest))
      ≡ line_marks pending (part_of number bytes) ++ scan (pending_line pending (part_of number bytes)) (parts_of (number + 1) (lines_of behind))
  first_of_rest e = ap (λ (lines : List (List ℕ)). scan pending (parts_of number lines)) e ∙ scan-line pending number bytes (lines_of behind)

  pub line_passed : (pending' : Option Pending) → lines_of rest ≡ bytes ∷ lines_of behind → with_front old (read (line_marks pending (part_of number bytes))) ≡ Ok new
      → pending' ≡ pending_line pending (part_of number bytes) → with_front old (read (scan pending (parts_of number (lines_of rest)))) ≡ all
      → with_front new (read (scan pending' (parts_of (number + 1) (lines_of behind)))) ≡ all
  line_passed pending' e pushed p h =
      let after = scan (pending_line pending (part_of number bytes)) (parts_of (number + 1) (lines_of behind)) in
      rw p (sym (pushed-append old new (line_marks pending (part_of number bytes)) after pushed) ∙ ap (λ (ms : List Mark). with_front old (read ms)) (sym (first_of_rest e)) ∙ h)

  pub line_failed : (f : MapRefusal) → lines_of rest ≡ bytes ∷ lines_of behind → read (line_marks pending (part_of number bytes)) ≡ Err f
      → with_front old (read (scan pending (parts_of number (lines_of rest)))) ≡ all → all ≡ Err f
  line_failed f e failed h =
      let after = scan (pending_line pending (part_of number bytes)) (parts_of (number + 1) (lines_of behind)) in
      sym h ∙ ap (with_front old) (ap read (first_of_rest e) ∙ fault-append f (line_marks pending (part_of number bytes)) after failed)

nothing_left : (pending : Option Pending) (number : ℕ) (rest : List ℕ) → length rest ≡ 0 → scan pending (parts_of number (lines_of rest)) ≡ left_open pending
nothing_left pending number rest none =
    let e : lines_of rest ≡ [] = ap lines_of (nil_from_length rest none) ∙ lines-none in
    ap (λ (lines : List (List ℕ)). scan pending (parts_of number lines)) e ∙ scan-none pending number

pub all_read : (tokens : List Token) (number : ℕ) (rest : List ℕ) (all : Result (List Token) MapRefusal) → length rest ≡ 0
    → with_front tokens (read (scan None (parts_of number (lines_of rest)))) ≡ all → all ≡ Ok tokens
all_read tokens number rest all none h = sym h ∙ ap (λ (ms : List Mark). with_front tokens (read ms)) (nothing_left None number rest none) ∙ read-none tokens

pub never_continued : (tokens : List Token) (pending : Pending) (number : ℕ) (rest : List ℕ) (all : Result (List Token) MapRefusal) → length rest ≡ 0
    → with_front tokens (read (scan (Some pending) (parts_of number (lines_of rest)))) ≡ all → all ≡ Err (refusal_at DanglingContinuation pending.line pending.column)
never_continued tokens pending number rest all none h =
    sym h ∙ ap (λ (ms : List Mark). with_front tokens (read ms)) (nothing_left (Some pending) number rest none)
    ∙ ap (with_front tokens) (read-fault (refusal_at DanglingContinuation pending.line pending.column) [])

-- ---- statements

-- what stands behind the inner marks of a part, with all parts behind it
behind : Part → Place → List Part → List Mark
behind part past others = closing_marks part past ++ scan (pending_behind part past) others

from_start : Part → Place
from_start part = place part.line part.start

-- a part that begins a statement
part-behind : (part : Part) (others : List Part) → scan None (part ∷ others) ≡ first_marks part ++ behind part (past_last (from_start part) (first_marks part)) others
unfolding scan part_marks pending_part inner_marks past_inner behind from_start
part-behind part others = append_assoc (first_marks part) (closing_marks part (past_last (from_start part) (first_marks part))) (scan (pending_behind part (past_last (from_start part) (first_marks part))) others)

-- the rest of a statement, and the statements behind it
rest_of : Place → List Mark → Part → List Part → List Mark
rest_of start inner part others =
    let later = flat_map later_marks (later_parts part others) in
    later ++ (closing (last_part part (later_parts part others)) (past_last start (inner ++ later)) ∷ flat_map statement_marks (statements_behind part others))

regrouped : (f l : List Mark) (x : Mark) (rest : List Mark) → f ++ (l ++ (x ∷ rest)) ≡ ((f ++ l) ++ (x ∷ [])) ++ rest
regrouped f l x rest = simp append_assoc

-- a whole statement
statement_is : (part : Part) (others : List Part)
    → first_marks part ++ rest_of (from_start part) (first_marks part) part others ≡ flat_map statement_marks (record { first = part; later = later_parts part others } ∷ statements_behind part others)
unfolding rest_of from_start statement_marks
statement_is part others =
    let later = flat_map later_marks (later_parts part others) in
    regrouped (first_marks part) later (closing (last_part part (later_parts part others)) (past_last (from_start part) (first_marks part ++ later))) (flat_map statement_marks (statements_behind part others))

continued-behind : (part : Part) (past : Place) (next : Part) (others : List Part) → ends_open part ≡ true → same_form part.form next.form ≡ true
    → behind part past (next ∷ others) ≡ later_marks next ++ behind next (past_last past (later_marks next)) others
unfolding behind scan part_marks pending_part inner_marks past_inner
continued-behind part past next others e s =
    let past' = past_last past (later_marks next) in
    rw (e, s) (append_assoc (later_marks next) (closing_marks next past') (scan (pending_behind next past') others))

continued-rest : (start : Place) (inner : List Mark) (part next : Part) (others : List Part) → ends_open part ≡ true → same_form part.form next.form ≡ true
    → rest_of start inner part (next ∷ others) ≡ later_marks next ++ rest_of start (inner ++ later_marks next) next others
unfolding rest_of later_parts statements_behind
continued-rest start inner part next others e s =
    let l = later_marks next in
    let later = flat_map later_marks (later_parts next others) in
    let last = last_part next (later_parts next others) in
    let tail = flat_map statement_marks (statements_behind next others) in
    rw (e, s) (append_assoc l later (closing last (past_last start (inner ++ (l ++ later))) ∷ tail)
    ∙ ap (λ (m : List Mark). l ++ (later ++ (closing last (past_last start m) ∷ tail))) (sym (append_assoc inner l later)))

ended-rest : (start : Place) (inner : List Mark) (part next : Part) (others : List Part) → is_continued_by part next ≡ false
    → rest_of start inner part (next ∷ others) ≡ closing part (past_last start inner) ∷ flat_map statement_marks (record { first = next; later = later_parts next others } ∷ statements_behind next others)
unfolding rest_of later_parts statements_behind
ended-rest start inner part next others h = rw (h, append-nil inner) refl

ended-behind : (part : Part) (past : Place) (next : Part) (others : List Part) → is_continued_by part next ≡ false
    → behind part past (next ∷ others) ≡ closing part past ∷ scan None (next ∷ others)
unfolding behind scan part_marks pending_part inner_marks past_inner
ended-behind part past next others h =
    elim (cases_Bool (ends_open part)) [
      | inl e ↦ rw (e, differs e) refl
      | inr e ↦ rw e refl
    ] where
      differs : ends_open part ≡ true → same_form part.form next.form ≡ false
      differs e = rw e at h

none-behind : (start : Place) (inner : List Mark) (part : Part) → behind part (past_last start inner) [] ≡ rest_of start inner part []
unfolding behind rest_of later_parts statements_behind scan
none-behind start inner part =
    elim (cases_Bool (ends_open part)) [
      | inl e ↦ rw (append-nil inner, e) refl
      | inr e ↦ rw (append-nil inner, e) refl
    ]

is_behind : (start : Place) (inner : List Mark) (part : Part) (others : List Part) → behind part (past_last start inner) others ≡ rest_of start inner part others
is_behind start inner part [] = none-behind start inner part
is_behind start inner part (next ∷ others) =
    let new_statement : scan None (next ∷ others) ≡ flat_map statement_marks (record { first = next; later = later_parts next others } ∷ statements_behind next others) =
    part-behind next others ∙ ap (λ (m : List Mark). first_marks next ++ m) (is_behind (from_start next) (first_marks next) next others) ∙ statement_is next others in
    let l = later_marks next in
    elim (cases_Bool (is_continued_by part next)) [
      | inl h ↦
          let both = and_parts (ends_open part) (same_form part.form next.form) h in
          continued-behind part (past_last start inner) next others both.0 both.1
          ∙ ap (λ (p : Place). l ++ behind next p others) (sym (past_last-append start inner l))
          ∙ ap (λ (m : List Mark). l ++ m) (is_behind start (inner ++ l) next others)
          ∙ sym (continued-rest start inner part next others both.0 both.1)
      | inr h ↦
          ended-behind part (past_last start inner) next others h
          ∙ ap (λ (m : List Mark). closing part (past_last start inner) ∷ m) new_statement
          ∙ sym (ended-rest start inner part next others h)
    ]

scan-empty : scan None [] ≡ []
unfolding scan
scan-empty = refl

-- the scan of a text's parts gives what stands in its statements
pub scan_is : (parts : List Part) → scan None parts ≡ flat_map statement_marks (statements parts)
unfolding statements
scan_is [] = scan-empty
scan_is (part ∷ others) =
    part-behind part others ∙ ap (λ (m : List Mark). first_marks part ++ m) (is_behind (from_start part) (first_marks part) part others) ∙ statement_is part others
