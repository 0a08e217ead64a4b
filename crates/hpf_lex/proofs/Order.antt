-- The faults of a text stand in the order of their places, so that the first from the left is the one with the least
-- place.
use Rattle.std.proofs.Common.{◌≡◌, ℕ, zero, suc, ◌+◌, ◌<◌, ◌≤◌, Bool, true, false, cond, eqb, ltb, ◌&&◌, ◌||◌, List, [], ◌∷◌, ◌++◌, length, get_or, drop, Option, Some, None, Result, Ok, Err, refl, sym, ap, subst, ◌∙◌, append_assoc, ◌⊎◌, inl, inr, arith, length-drop}
use Rattle.std.specs.List.{AllByRecursion}
use Rattle.std.proofs.lemmas.Bool.Decides.{nat_tests}
use Rattle.std.proofs.lemmas.Bool.{cases_Bool, eqb-true, le-ltb, lt-ltb, or_from, or_left, or_right, and_left, and_right, and_from, cases_lt, eq-eqb}
use Rattle.hpf_lex.specs.declared.lexeme.Lexeme.{Lexeme}
use Rattle.hpf_lex.specs.declared.line.Form.{Form}
use Rattle.hpf_lex.specs.declared.place.Place.{Place}
use Rattle.hpf_lex.specs.declared.refusal.Fault.{Fault}
use Rattle.hpf_lex.specs.declared.refusal.Fault.TheVariants.{TooLong}
use Rattle.hpf_lex.specs.declared.refusal.MapError.{MapError}
use Rattle.hpf_lex.specs.declared.refusal.MapError.TheVariants as errors
use Rattle.hpf_lex.specs.declared.refusal.MapRefusal.{MapRefusal}
use Rattle.hpf_lex.specs.declared.scan.Pending.{Pending}
use Rattle.hpf_lex.specs.declared.token.Token.{Token}
use Rattle.hpf_lex.specs.declared.token.TokenKind.{TokenKind}
use Rattle.hpf_lex.specs.Bytes.{is_blank}
use Rattle.hpf_lex.specs.Line.{Part, part_from, part_of, parts_of, put_part, lines_of}
use Rattle.hpf_lex.specs.Lexeme.{lexeme_at}
use Rattle.hpf_lex.specs.Statement.{Mark, token, fault, mark_at, mark_here, covered_behind, refusal_at, marks, prefix_kind, prefix_token, prefix_marks, own_text, first_marks, later_marks, same_form, ends_open, end_at, text_marks, max_text}
use Rattle.hpf_lex.specs.Order.{stands_before, stands_with, comes_before, least_of, least}
use Rattle.hpf_lex.specs.Text.{tokens_of, faults_of, tokens_or, reading, HasTokens, HasFault, Answers, IfRefused, IsRead, IsRefused}
use Rattle.hpf_lex.specs.Scanning.{with_front, read, Fails, dangling, closing_marks, pending_behind, inner_marks, past_inner, part_marks, pending_part, left_open, scan}
use Rattle.hpf_lex.proofs.Marks.{fault_behind}
use Rattle.hpf_lex.proofs.Parts.{scan_is}

-- at this place or behind it
pub record From (line column : ℕ) (f : MapRefusal) : Type 0 where
  pub line_from : line ≤ f.line
  pub column_from : f.line ≡ line → column ≤ f.column

-- faults one behind the other, from this place on
abbrev pub Rises : ℕ → ℕ → List Mark → Type 0
Rises line column [] = Unit {0}
Rises line column (token t width ∷ others) = Rises line column others
Rises line column (fault f ∷ others) = From line column f × Rises f.line (f.column + 1) others

-- the same in one line, before a column
abbrev InLine : ℕ → ℕ → ℕ → List Mark → Type 0
InLine line column end [] = Unit {0}
InLine line column end (token t width ∷ others) = InLine line column end others
InLine line column end (fault f ∷ others) = (f.line ≡ line) × (column ≤ f.column) × (f.column < end) × InLine line (f.column + 1) end others

Rises-weaker : (line column line' column' : ℕ) (ms : List Mark) → line' ≤ line → (line ≡ line' → column' ≤ column) → Rises line column ms → Rises line' column' ms
Rises-weaker l c l' c' [] a b h = tt
Rises-weaker l c l' c' (token t width ∷ ms) a b h = Rises-weaker l c l' c' ms a b h
Rises-weaker l c l' c' (fault f ∷ ms) a b h =
    (record { line_from = omega (arith, h.0.line_from); column_from = λ e. omega (arith, h.0.line_from, h.0.column_from, b) }, h.1)

InLine-weaker : (line column column' end : ℕ) (ms : List Mark) → column' ≤ column → InLine line column end ms → InLine line column' end ms
InLine-weaker l c c' e [] a h = tt
InLine-weaker l c c' e (token t width ∷ ms) a h = InLine-weaker l c c' e ms a h
InLine-weaker l c c' e (fault f ∷ ms) a h = (h.0, omega arith, h.2, h.3)

InLine-append : (line column end : ℕ) (ms ns : List Mark) → column ≤ end → InLine line column end ms → Rises line end ns → Rises line column (ms ++ ns)
InLine-append l c e [] ns a h k = Rises-weaker l e l c ns (omega arith) (λ _. a) k
InLine-append l c e (token t width ∷ ms) ns a h k = InLine-append l c e ms ns a h k
InLine-append l c e (fault f ∷ ms) ns a h k = (
  record { line_from = omega (arith, h.0); column_from = λ _. h.1 },
  subst (λ (n : ℕ). Rises n (f.column + 1) (ms ++ ns)) (sym h.0) (InLine-append l (f.column + 1) e ms ns (omega (arith, h.2)) h.3 k),
)

-- ---- the marks of one line

mark_in_line : (line column end : ℕ) (found : Result Lexeme Fault) (ms : List Mark) → column < end → InLine line (column + 1) end ms → InLine line column end (mark_at line column found ∷ ms)
mark_in_line l c e (Ok found) ms lt h = InLine-weaker l (c + 1) c e ms (omega arith) h
mark_in_line l c e (Err f) ms lt h = (refl, omega arith, lt, h)

here_in_line : (line column end : ℕ) (bytes : List ℕ) (ms : List Mark) → column < end → InLine line (column + 1) end ms → InLine line column end (mark_here line column bytes ++ ms)
here_in_line l c e bytes ms lt h = by_blank (is_blank (get_or bytes 0 0)) where
  mark : Mark
  mark = mark_at l c (lexeme_at bytes)

  by_blank : (b : Bool) → InLine l c e (cond b [] (mark ∷ []) ++ ms)
  by_blank true = InLine-weaker l (c + 1) c e ms (omega arith) h
  by_blank false = mark_in_line l c e (lexeme_at bytes) ms lt h

marks_in_line : (line column behind : ℕ) (bytes : List ℕ) → InLine line column (column + length bytes) (marks line column behind bytes)
unfolding marks
marks_in_line l c k [] = tt
marks_in_line l c (suc k) (b ∷ bytes) =
    let e : (c + 1) + length bytes ≡ c + suc (length bytes) = omega arith in
    let ih = subst (λ (n : ℕ). InLine l (c + 1) n (marks l (c + 1) k bytes)) e (marks_in_line l (c + 1) k bytes) in
    InLine-weaker l (c + 1) c (c + suc (length bytes)) (marks l (c + 1) k bytes) (omega arith) ih
marks_in_line l c zero (b ∷ bytes) =
    let e : (c + 1) + length bytes ≡ c + suc (length bytes) = omega arith in
    let k = covered_behind (b ∷ bytes) in
    let ih = subst (λ (n : ℕ). InLine l (c + 1) n (marks l (c + 1) k bytes)) e (marks_in_line l (c + 1) k bytes) in
    here_in_line l c (c + suc (length bytes)) (b ∷ bytes) (marks l (c + 1) k bytes) (omega arith) ih

end_of : Part → ℕ
end_of part = part.column + length (own_text part)

prefix_in_line : (part : Part) (kind : Option TokenKind) (line column end : ℕ) (ms : List Mark) → InLine line column end ms → InLine line column end (prefix_token kind part ++ ms)
prefix_in_line part None l c e ms h = h
prefix_in_line part (Some kind) l c e ms h = h

first_in_line : (part : Part) → InLine part.line 0 (end_of part) (first_marks part)
unfolding first_marks prefix_marks end_of
first_in_line part =
    let ms = marks part.line part.column 0 (own_text part) in
    let here = marks_in_line part.line part.column 0 (own_text part) in
    prefix_in_line part (prefix_kind part.form) part.line 0 (part.column + length (own_text part)) ms
    (InLine-weaker part.line part.column 0 (part.column + length (own_text part)) ms (omega arith) here)

not_empty : (text : List ℕ) → eqb (get_or text 0 0) 38 ≡ true → 0 < length text
not_empty [] h = absurd cc
not_empty (c ∷ text) h = omega arith

later_in_line : (part : Part) → InLine part.line 0 (end_of part) (later_marks part)
unfolding later_marks end_of
later_in_line part = by_test (eqb (get_or (own_text part) 0 0) 38) refl where
  text : List ℕ
  text = own_text part

  by_test : (b : Bool) → eqb (get_or text 0 0) 38 ≡ b → InLine part.line 0 (part.column + length text) (cond b (marks part.line (part.column + 1) 0 (drop 1 text)) (marks part.line part.column 0 text))
  by_test true h =
      let some : 0 < length text = not_empty text h in
      let ms = marks part.line (part.column + 1) 0 (drop 1 text) in
      let e : (part.column + 1) + length (drop 1 text) ≡ part.column + length text = omega (arith, length-drop 1 text) in
      InLine-weaker part.line (part.column + 1) 0 (part.column + length text) ms (omega arith)
      (subst (λ (n : ℕ). InLine part.line (part.column + 1) n ms) e (marks_in_line part.line (part.column + 1) 0 (drop 1 text)))
  by_test false h = InLine-weaker part.line part.column 0 (part.column + length text) (marks part.line part.column 0 text) (omega arith) (marks_in_line part.line part.column 0 text)

-- ---- the marks of all parts

PartsRise : ℕ → List Part → Type 0
PartsRise line [] = Unit {0}
PartsRise line (part ∷ others) = (line ≤ part.line) × PartsRise (part.line + 1) others

PartsRise-weaker : (line line' : ℕ) (parts : List Part) → line' ≤ line → PartsRise line parts → PartsRise line' parts
unfolding PartsRise
PartsRise-weaker l l' [] a h = tt
PartsRise-weaker l l' (part ∷ parts) a h = (omega (arith, h.0), h.1)

part_line : (found : Option Form) (number blanks : ℕ) (bytes : List ℕ) (parts : List Part) → PartsRise (number + 1) parts → PartsRise number (put_part (part_from found number blanks bytes) parts)
unfolding PartsRise
part_line None number blanks bytes parts h = PartsRise-weaker (number + 1) number parts (omega arith) h
part_line (Some form) number blanks bytes parts h = (omega arith, h)

parts_rise : (number : ℕ) (lines : List (List ℕ)) → PartsRise number (parts_of number lines)
unfolding parts_of part_of PartsRise
parts_rise number [] = tt
parts_rise number (line ∷ lines) = part_line _ number _ _ (parts_of (number + 1) lines) (parts_rise (number + 1) lines)

StandsBefore : Option Pending → ℕ → Type 0
StandsBefore None line = Unit {0}
StandsBefore (Some pending) line = pending.line < line

RisesBehind : Option Pending → ℕ → List Mark → Type 0
RisesBehind None line ms = Rises line 0 ms
RisesBehind (Some pending) line ms = Rises pending.line pending.column ms

closing_rises : (part : Part) (past : Place) (line column : ℕ) (ms : List Mark) → Rises line column ms → Rises line column (closing_marks part past ++ ms)
closing_rises part past l c ms h = by_end (ends_open part) where
  by_end : (b : Bool) → Rises l c (cond b [] (end_at past ∷ []) ++ ms)
  by_end true = h
  by_end false = h

-- what stands behind a part
behind_rises : (part : Part) (past : Place) (ms : Option Pending → List Mark)
    → ((pending : Option Pending) → StandsBefore pending (part.line + 1) → RisesBehind pending (part.line + 1) (ms pending))
    → Rises part.line (end_of part) (closing_marks part past ++ ms (pending_behind part past))
unfolding StandsBefore RisesBehind end_of
behind_rises part past ms h =
    closing_rises part past part.line (part.column + length (own_text part)) (ms (pending_behind part past)) (by_end (ends_open part)) where
      next : Pending
      next = record { form = part.form; line = part.line; column = part.column + length (own_text part); past = past }

      by_end : (b : Bool) → Rises part.line (part.column + length (own_text part)) (ms (cond b (Some next) None))
      by_end true = h (Some next) (omega arith)
      by_end false = Rises-weaker (part.line + 1) 0 part.line (part.column + length (own_text part)) (ms None) (omega arith) (λ e. absurd (omega arith)) (h None tt)

-- the inner marks of a part, and what rises behind them
inner_rises : (pending : Option Pending) (line : ℕ) (part : Part) (ms : List Mark) → StandsBefore pending line → line ≤ part.line → Rises part.line (end_of part) ms
    → RisesBehind pending line (inner_marks pending part ++ ms)
unfolding StandsBefore RisesBehind inner_marks
inner_rises None line part ms s le h =
    Rises-weaker part.line 0 line 0 (first_marks part ++ ms) le (λ _. omega arith) (InLine-append part.line 0 (end_of part) (first_marks part) ms (omega arith) (first_in_line part) h)
inner_rises (Some pending) line part ms s le h = by_form (same_form pending.form part.form) where
  first : Rises part.line 0 (first_marks part ++ ms)
  first = InLine-append part.line 0 (end_of part) (first_marks part) ms (omega arith) (first_in_line part) h

  later : Rises part.line 0 (later_marks part ++ ms)
  later = InLine-append part.line 0 (end_of part) (later_marks part) ms (omega arith) (later_in_line part) h

  by_form : (b : Bool) → Rises pending.line pending.column (cond b (later_marks part) (dangling pending ∷ first_marks part) ++ ms)
  by_form true = Rises-weaker part.line 0 pending.line pending.column (later_marks part ++ ms) (omega arith) (λ e. absurd (omega arith)) later
  by_form false = (
    record { line_from = omega arith; column_from = λ _. omega arith },
    Rises-weaker part.line 0 pending.line (pending.column + 1) (first_marks part ++ ms) (omega arith) (λ e. absurd (omega arith)) first,
  )

left_rises : (pending : Option Pending) (line : ℕ) → RisesBehind pending line (left_open pending)
unfolding RisesBehind
left_rises None line = tt
left_rises (Some pending) line = (record { line_from = omega arith; column_from = λ _. omega arith }, tt)

scan_rises : (parts : List Part) (pending : Option Pending) (line : ℕ) → StandsBefore pending line → PartsRise line parts → RisesBehind pending line (scan pending parts)
unfolding scan part_marks pending_part PartsRise
scan_rises [] pending line s h = left_rises pending line
scan_rises (part ∷ others) pending line s h =
    let past = past_inner pending part in
    let tail = λ (p : Option Pending). scan p others in
    let behind = behind_rises part past tail (λ p b. scan_rises others p (part.line + 1) b h.1) in
    rw (append_assoc (inner_marks pending part) (closing_marks part past) (tail (pending_behind part past)))
    (inner_rises pending line part (closing_marks part past ++ tail (pending_behind part past)) s h.0 behind)

all_rises : (lines : List (List ℕ)) → Rises 1 0 (scan None (parts_of 1 lines))
unfolding StandsBefore RisesBehind
all_rises lines = scan_rises (parts_of 1 lines) None 1 tt (parts_rise 1 lines)

-- ---- the first is the least

abbrev ok : List Token → Result (List Token) MapRefusal
ok ts = Ok ts

abbrev err : MapRefusal → Result (List Token) MapRefusal
err f = Err f

ok_is : (x y : List Token) → ok x ≡ ok y → x ≡ y
ok_is x y e = cc

err_is : (f g : MapRefusal) → err f ≡ err g → f ≡ g
err_is f g e = cc

abbrev some : MapRefusal → Option MapRefusal
some f = Some f

some_is : (f g : MapRefusal) → some f ≡ some g → f ≡ g
some_is f g e = cc

ok_no_err : (x : List Token) (f : MapRefusal) → ok x ≡ err f → ⊥
ok_no_err x f e = cc

ok_behind : (front : List Token) (r : Result (List Token) MapRefusal) (ts : List Token) → with_front front r ≡ Ok ts → (us : List Token) × (r ≡ Ok us) × (front ++ us ≡ ts)
ok_behind front (Ok us) ts e = (us, refl, ok_is (front ++ us) ts e)
ok_behind front (Err f) ts e = absurd cc

not_before_at : (fl fc gl gc : ℕ) → fl ≤ gl → (gl ≡ fl → fc + 1 ≤ gc) → (ltb gl fl || (eqb gl fl && ltb gc fc)) ≡ false
not_before_at fl fc gl gc le h =
    or_from (ltb gl fl) (eqb gl fl && ltb gc fc) (le-ltb gl fl le)
    (elim (cases_Bool (eqb gl fl)) [
      | inl e ↦ and_right (eqb gl fl) (ltb gc fc) (le-ltb gc fc (omega (arith, h (eqb-true gl fl e))))
      | inr e ↦ and_left (eqb gl fl) (ltb gc fc) e
    ])

not_with_at : (fl fc gl gc : ℕ) → (gl ≡ fl → fc + 1 ≤ gc) → (eqb gl fl && eqb gc fc) ≡ false
not_with_at fl fc gl gc h = grind (arith, nat_tests)

not_before : (f g : MapRefusal) → From f.line (f.column + 1) g → comes_before g f ≡ false
not_before f g h =
    or_from (stands_before g f) (stands_with g f && ltb g.code f.code)
    (not_before_at f.line f.column g.line g.column h.line_from h.column_from)
    (and_left (stands_with g f) (ltb g.code f.code) (not_with_at f.line f.column g.line g.column h.column_from))

first_is_least : (f : MapRefusal) (ms : List Mark) → Rises f.line (f.column + 1) ms → least_of f (least (faults_of ms)) ≡ f
first_is_least f [] h = refl
first_is_least f (token t width ∷ ms) h = first_is_least f ms h
first_is_least f (fault g ∷ ms) h =
    ap (λ (x : MapRefusal). least_of f (Some x)) (first_is_least g ms h.1) ∙ rw (not_before f g h.0) refl

read_fault : (line column : ℕ) (ms : List Mark) (f : MapRefusal) → Rises line column ms → read ms ≡ Err f → (least (faults_of ms) ≡ Some f) × (line ≤ f.line)
unfolding read
read_fault l c [] f h e = absurd cc
read_fault l c (token t width ∷ ms) f h e = read_fault l c ms f h (fault_behind (t ∷ []) (read ms) f e)
read_fault l c (fault g ∷ ms) f h e =
    let same : g ≡ f = err_is g f e in
    (ap Some (first_is_least g ms h.1 ∙ same), subst (λ (x : MapRefusal). l ≤ x.line) same h.0.line_from)

read_tokens : (ms : List Mark) (ts : List Token) → read ms ≡ Ok ts → (faults_of ms ≡ []) × (tokens_of ms ≡ ts)
unfolding read
read_tokens [] ts e = (refl, ok_is [] ts e)
read_tokens (token t width ∷ ms) ts e =
    let b = ok_behind (t ∷ []) (read ms) ts e in
    let ih = read_tokens ms b.0 b.1 in
    (ih.0, ap (λ (x : List Token). t ∷ x) ih.1 ∙ b.2)
read_tokens (fault f ∷ ms) ts e = absurd cc

-- ---- the reading of a text

pub tokens_read : (text : List ℕ) (ts : List Token) → length text ≤ max_text → read (scan None (parts_of 1 (lines_of text))) ≡ Ok ts → reading text ≡ Ok ts
unfolding reading text_marks
tokens_read text ts short e =
    let parts = parts_of 1 (lines_of text) in
    let all = read_tokens (scan None parts) ts e in
    rw (le-ltb max_text (length text) short, ← scan_is parts, all.0, all.1) refl

pub fault_read : (text : List ℕ) (f : MapRefusal) → length text ≤ max_text → read (scan None (parts_of 1 (lines_of text))) ≡ Err f → (reading text ≡ Err f) × (1 ≤ f.line)
unfolding reading text_marks
fault_read text f short e =
    let parts = parts_of 1 (lines_of text) in
    let all = read_fault 1 0 (scan None parts) f (all_rises (lines_of text)) e in
    (rw (le-ltb max_text (length text) short, ← scan_is parts, all.0) refl, all.1)

-- an answer that is an error
pub failed_answer : (text : List ℕ) (ms : List Mark) (e : MapError) → length text ≤ max_text
    → ((f : MapRefusal) → read ms ≡ Err f → read (scan None (parts_of 1 (lines_of text))) ≡ Err f) → Fails ms e → Answers (Err e) text × IfRefused {A = List Token} (Err e) (λ f. 1 ≤ f.line)
failed_answer text ms (errors.Refused f) short all h = fault_read text f short (all f h)
failed_answer text ms (errors.Memory e) short all h = (tt, tt)

pub too_long_read : (text : List ℕ) → max_text < length text → reading text ≡ Err (refusal_at TooLong 0 0)
unfolding reading
too_long_read text h = rw (lt-ltb max_text (length text) h) refl

-- the answer for a text that isn't too long
pub tokens_come : (text : List ℕ) (tokens : List Token) (result : Result (List Token) MapError) → Answers result text → HasTokens text tokens → IsRead result tokens
tokens_come text tokens (Ok found) h k = ok_is found tokens (sym h ∙ k)
tokens_come text tokens (Err (errors.Refused f)) h k = absurd (ok_no_err tokens f (sym k ∙ h))
tokens_come text tokens (Err (errors.Memory e)) h k = tt

pub fault_comes : (text : List ℕ) (f : MapRefusal) (result : Result (List Token) MapError) → Answers result text → HasFault text f → IsRefused result f
fault_comes text f (Ok found) h k = absurd (ok_no_err found f (sym h ∙ k))
fault_comes text f (Err (errors.Refused g)) h k = err_is g f (sym h ∙ k)
fault_comes text f (Err (errors.Memory e)) h k = tt

-- ---- laws

pub some_reading : (text : List ℕ) → ((tokens : List Token) × HasTokens text tokens) ⊎ ((f : MapRefusal) × HasFault text f)
some_reading text = by_reading (reading text) refl where
  by_reading : (r : Result (List Token) MapRefusal) → reading text ≡ r → ((tokens : List Token) × HasTokens text tokens) ⊎ ((f : MapRefusal) × HasFault text f)
  by_reading (Ok tokens) e = inl (tokens, e)
  by_reading (Err f) e = inr (f, e)

pub never_both : (text : List ℕ) (tokens : List Token) (f : MapRefusal) → HasTokens text tokens → HasFault text f → ⊥
never_both text tokens f h k = ok_no_err tokens f (sym h ∙ k)

pub one_list : (text : List ℕ) (a b : List Token) → HasTokens text a → HasTokens text b → a ≡ b
one_list text a b h k = ok_is a b (sym h ∙ k)

pub one_fault : (text : List ℕ) (f g : MapRefusal) → HasFault text f → HasFault text g → f ≡ g
one_fault text f g h k = err_is f g (sym h ∙ k)

before_at : (fl fc gl gc : ℕ) → fl ≤ gl → (gl ≡ fl → fc + 1 ≤ gc) → (ltb fl gl || (eqb fl gl && ltb fc gc)) ≡ true
before_at fl fc gl gc le h =
    elim (cases_lt fl gl) [
      | inl lt ↦ or_left (ltb fl gl) (eqb fl gl && ltb fc gc) (lt-ltb fl gl lt)
      | inr ge ↦
          let same : gl ≡ fl = omega arith in
          or_right (ltb fl gl) (eqb fl gl && ltb fc gc) (and_from (eqb fl gl) (ltb fc gc) (eq-eqb fl gl (sym same)) (lt-ltb fc gc (omega (arith, h same))))
    ]

all_behind : (f : MapRefusal) (ms : List Mark) → Rises f.line (f.column + 1) ms → AllByRecursion (λ g. stands_before f g ≡ true) (faults_of ms)
all_behind f [] h = tt
all_behind f (token t width ∷ ms) h = all_behind f ms h
all_behind f (fault g ∷ ms) h = (
  before_at f.line f.column g.line g.column h.0.line_from h.0.column_from,
  all_behind f ms (Rises-weaker g.line (g.column + 1) f.line (f.column + 1) ms h.0.line_from (λ e. omega (arith, h.0.column_from)) h.1),
)

first_of : (line column : ℕ) (ms : List Mark) (f : MapRefusal) → Rises line column ms → least (faults_of ms) ≡ Some f
    → (others : List MapRefusal) × (faults_of ms ≡ f ∷ others) × AllByRecursion (λ g. stands_before f g ≡ true) others
first_of l c [] f h e = absurd cc
first_of l c (token t width ∷ ms) f h e = first_of l c ms f h e
first_of l c (fault g ∷ ms) f h e =
    let same : g ≡ f = some_is g f (ap Some (sym (first_is_least g ms h.1)) ∙ e) in (
      faults_of ms,
      ap (λ (x : MapRefusal). x ∷ faults_of ms) same,
      subst (λ (x : MapRefusal). AllByRecursion (λ y. stands_before x y ≡ true) (faults_of ms)) same (all_behind g ms h.1),
    )

text_rises : (text : List ℕ) → Rises 1 0 (text_marks text)
unfolding text_marks
text_rises text = subst (λ (ms : List Mark). Rises 1 0 ms) (scan_is (parts_of 1 (lines_of text))) (all_rises (lines_of text))

verdict_ok : (faults : List MapRefusal) (found tokens : List Token) → tokens_or found (least faults) ≡ Ok tokens → (faults ≡ []) × (tokens ≡ found)
verdict_ok [] found tokens e = (refl, sym (ok_is found tokens e))
verdict_ok (f ∷ faults) found tokens e = absurd cc

verdict_err : (o : Option MapRefusal) (found : List Token) (f : MapRefusal) → tokens_or found o ≡ Err f → o ≡ Some f
verdict_err None found f e = absurd (ok_no_err found f e)
verdict_err (Some g) found f e = ap Some (err_is g f e)

pub no_faults : (text : List ℕ) (tokens : List Token) → HasTokens text tokens
    → (length text ≤ max_text) × (faults_of (text_marks text) ≡ []) × (tokens ≡ tokens_of (text_marks text))
unfolding reading
no_faults text tokens h =
    elim (cases_lt max_text (length text)) [
      | inl long ↦ absurd (ok_no_err tokens (refusal_at TooLong 0 0) (sym (rw (lt-ltb max_text (length text) long) at h)))
      | inr short ↦
          let both = verdict_ok (faults_of (text_marks text)) (tokens_of (text_marks text)) tokens (rw (le-ltb max_text (length text) short) at h) in
          (short, both.0, both.1)
    ]

pub has_tokens : (text : List ℕ) → length text ≤ max_text → faults_of (text_marks text) ≡ [] → HasTokens text (tokens_of (text_marks text))
unfolding reading
has_tokens text short none = rw (le-ltb max_text (length text) short, none) refl

pub first_fault : (text : List ℕ) (f : MapRefusal) → length text ≤ max_text → HasFault text f
    → (others : List MapRefusal) × (faults_of (text_marks text) ≡ f ∷ others) × AllByRecursion (λ g. stands_before f g ≡ true) others
unfolding reading
first_fault text f short h =
    first_of 1 0 (text_marks text) f (text_rises text) (verdict_err (least (faults_of (text_marks text))) (tokens_of (text_marks text)) f (rw (le-ltb max_text (length text) short) at h))

-- ---- the order of refusals

pub never_round : (f g : MapRefusal) → comes_before f g ≡ true → comes_before g f ≡ true → ⊥
never_round f g h k = grind (arith, nat_tests)

-- an earlier line, or the same and an earlier column, or both the same and a lesser code, without a choice
record Earlier (f g : MapRefusal) : Type 0 where
  line : f.line ≤ g.line
  column : f.line ≡ g.line → f.column ≤ g.column
  code : f.line ≡ g.line → f.column ≡ g.column → f.code < g.code

earlier : (f g : MapRefusal) → comes_before f g ≡ true → Earlier f g
earlier f g h = record { line = grind (arith, nat_tests); column = λ e. grind (arith, nat_tests); code = λ e d. grind (arith, nat_tests) }

comes : (f g : MapRefusal) → f.line ≤ g.line → (f.line ≡ g.line → f.column ≤ g.column) → (f.line ≡ g.line → f.column ≡ g.column → f.code < g.code) → comes_before f g ≡ true
comes f g a b c = grind (arith, nat_tests)

pub goes_on : (f g h : MapRefusal) → comes_before f g ≡ true → comes_before g h ≡ true → comes_before f h ≡ true
goes_on f g h p q =
    let one : Earlier f g = earlier f g p in
    let two : Earlier g h = earlier g h q in
    comes f h (omega (arith, one.line, two.line)) (λ e. omega (arith, one.line, two.line, one.column, two.column))
    (λ e d. omega (arith, one.line, two.line, one.column, two.column, one.code, two.code))

same_places : (f g : MapRefusal) → comes_before f g ≡ false → comes_before g f ≡ false → (f.line ≡ g.line) × (f.column ≡ g.column) × (f.code ≡ g.code)
same_places f g h k = (grind (arith, nat_tests), grind (arith, nat_tests), grind (arith, nat_tests))

pub one_first : (f g : MapRefusal) → comes_before f g ≡ false → comes_before g f ≡ false → f ≡ g
one_first f g h k = ap (λ (n : ℕ). make n f.column f.code) e.0 ∙ ap (λ (n : ℕ). make g.line n f.code) e.1 ∙ ap (λ (n : ℕ). make g.line g.column n) e.2 where
  make : ℕ → ℕ → ℕ → MapRefusal
  make line column code = record { code = code; line = line; column = column }

  e : (f.line ≡ g.line) × (f.column ≡ g.column) × (f.code ≡ g.code)
  e = same_places f g h k
