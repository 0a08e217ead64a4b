-- The marks of a line's bytes, one after the other, and what is read from them.
use Rattle.std.proofs.Common.{◌≡◌, ℕ, zero, suc, ◌+◌, ◌-◌, ◌<◌, true, false, List, [], ◌∷◌, ◌++◌, length, get_or, drop, Option, Some, None, Result, Ok, Err, refl, sym, ap, ◌∙◌, append_assoc, add-zero, arith, subst}
use Rattle.std.proofs.lemmas.List.{append-nil, nil_from_length}
use Rattle.hpf_lex.specs.declared.lexeme.Lexeme.{Lexeme}
use Rattle.hpf_lex.specs.declared.place.Place.{Place}
use Rattle.hpf_lex.specs.declared.refusal.Fault.{Fault}
use Rattle.hpf_lex.specs.declared.refusal.MapRefusal.{MapRefusal}
use Rattle.hpf_lex.specs.declared.refusal.MapError.{MapError}
use Rattle.hpf_lex.specs.declared.refusal.MapError.TheVariants as errors
use Rattle.hpf_lex.specs.declared.token.Token.{Token}
use Rattle.hpf_lex.specs.declared.token.TokenKind.{TokenKind}
use Rattle.hpf_lex.specs.Bytes.{is_blank}
use Rattle.hpf_lex.specs.Lexeme.{lexeme_at, covered}
use Rattle.hpf_lex.specs.Line.{Part, prefix_width}
use Rattle.hpf_lex.specs.Statement.{Mark, token, fault, token_at, bare_token, refusal_at, marks, past_last, place, prefix_kind, prefix_token, prefix_marks}
use Rattle.hpf_lex.specs.Scanning.{with_front, read, Fails, Pushes}

-- ---- marks

pub marks-none : (line column : ℕ) → marks line column 0 [] ≡ []
unfolding marks
marks-none line column = refl

-- bytes that belong to a token
covered_bytes : (line column n : ℕ) (bytes : List ℕ) → marks line column n bytes ≡ marks line (column + n) 0 (drop n bytes)
unfolding marks
covered_bytes line column zero bytes = rw (add-zero column) refl
covered_bytes line column (suc n) [] = refl
covered_bytes line column (suc n) (c ∷ bytes) =
    let e : (column + 1) + n ≡ column + suc n = omega arith in
    covered_bytes line (column + 1) n bytes ∙ ap (λ (k : ℕ). marks line k 0 (drop n bytes)) e

pub marks-blank : (line column : ℕ) (bytes : List ℕ) → 0 < length bytes → is_blank (get_or bytes 0 0) ≡ true → marks line column 0 bytes ≡ marks line (column + 1) 0 (drop 1 bytes)
unfolding marks
marks-blank line column [] h blank = absurd (omega arith)
marks-blank line column (c ∷ bytes) h blank = rw blank refl

pub marks-token : (line column : ℕ) (bytes : List ℕ) (found : Lexeme) → 0 < length bytes → is_blank (get_or bytes 0 0) ≡ false → lexeme_at bytes ≡ Ok found → 0 < found.width
    → marks line column 0 bytes ≡ token (token_at found line column) found.width ∷ marks line (column + found.width) 0 (drop found.width bytes)
unfolding marks
marks-token line column [] found h blank e some = absurd (omega arith)
marks-token line column (c ∷ bytes) found h blank e some =
    let less : suc (found.width - 1) ≡ found.width = omega arith in
    let drops : marks line (column + found.width) 0 (drop (found.width - 1) bytes) ≡ marks line (column + found.width) 0 (drop found.width (c ∷ bytes)) =
    ap (λ (n : ℕ). marks line (column + found.width) 0 (drop n (c ∷ bytes))) less in
    let sums : (column + 1) + (found.width - 1) ≡ column + found.width = omega arith in
    rw (blank, e) (ap (λ (others : List Mark). token (token_at found line column) found.width ∷ others)
    (covered_bytes line (column + 1) (found.width - 1) bytes ∙ ap (λ (k : ℕ). marks line k 0 (drop (found.width - 1) bytes)) sums ∙ drops))

pub marks-fault : (line column : ℕ) (bytes : List ℕ) (f : Fault) → 0 < length bytes → is_blank (get_or bytes 0 0) ≡ false → lexeme_at bytes ≡ Err f
    → (others : List Mark) × (marks line column 0 bytes ≡ fault (refusal_at f line column) ∷ others)
unfolding marks
marks-fault line column [] f h blank e = absurd (omega arith)
marks-fault line column (c ∷ bytes) f h blank e = (marks line (column + 1) (covered (c ∷ bytes) (Err f) - 1) bytes, rw (blank, e) refl)

-- ---- what is read from marks

pub with_front-append : (a b : List Token) (r : Result (List Token) MapRefusal) → with_front (a ++ b) r ≡ with_front a (with_front b r)
with_front-append a b (Ok tokens) = ap Ok (append_assoc a b tokens)
with_front-append a b (Err f) = refl

pub read-token : (t : Token) (width : ℕ) (others : List Mark) (front : List Token) → with_front front (read (token t width ∷ others)) ≡ with_front (front ++ t ∷ []) (read others)
unfolding read
read-token t width others front = sym (with_front-append front (t ∷ []) (read others))

pub read-fault : (f : MapRefusal) (others : List Mark) → read (fault f ∷ others) ≡ Err f
unfolding read
read-fault f others = refl

pub read-none : (front : List Token) → with_front front (read []) ≡ Ok front
unfolding read
read-none front = ap Ok (append-nil front)

-- a fault among what is read behind other tokens
pub fault_behind : (front : List Token) (r : Result (List Token) MapRefusal) (f : MapRefusal) → with_front front r ≡ Err f → r ≡ Err f
fault_behind front (Ok tokens) f h = absurd cc
fault_behind front (Err g) f h = h

-- marks that are read, and others behind them
read_on : Result (List Token) MapRefusal → Result (List Token) MapRefusal → Result (List Token) MapRefusal
read_on (Ok tokens) r = with_front tokens r
read_on (Err f) r = Err f

with_front-none : (r : Result (List Token) MapRefusal) → with_front [] r ≡ r
with_front-none (Ok tokens) = refl
with_front-none (Err f) = refl

with_front-read_on : (front : List Token) (r s : Result (List Token) MapRefusal) → with_front front (read_on r s) ≡ read_on (with_front front r) s
unfolding read_on
with_front-read_on front (Ok tokens) s = sym (with_front-append front tokens s)
with_front-read_on front (Err f) s = refl

read-append : (a b : List Mark) → read (a ++ b) ≡ read_on (read a) (read b)
unfolding read read_on
read-append [] b = sym (with_front-none (read b))
read-append (token t width ∷ a) b = ap (with_front (t ∷ [])) (read-append a b) ∙ with_front-read_on (t ∷ []) (read a) (read b)
read-append (fault f ∷ a) b = refl

pub pushed-append : (old new : List Token) (a b : List Mark) → with_front old (read a) ≡ Ok new → with_front old (read (a ++ b)) ≡ with_front new (read b)
unfolding read_on
pushed-append old new a b h =
    ap (with_front old) (read-append a b) ∙ with_front-read_on old (read a) (read b) ∙ ap (λ (r : Result (List Token) MapRefusal). read_on r (read b)) h

pub fault-append : (f : MapRefusal) (a b : List Mark) → read a ≡ Err f → read (a ++ b) ≡ Err f
unfolding read_on
fault-append f a b h = read-append a b ∙ ap (λ (r : Result (List Token) MapRefusal). read_on r (read b)) h

pub past_last-append : (start : Place) (a b : List Mark) → past_last start (a ++ b) ≡ past_last (past_last start a) b
unfolding past_last
past_last-append start [] b = refl
past_last-append start (token t width ∷ a) b = past_last-append (place t.line (t.column + width)) a b
past_last-append start (fault f ∷ a) b = past_last-append start a b

-- ---- a loop over a line's bytes

-- What was read so far and what is left: with what is left come the tokens, and the place past the last, of all marks.
pub record GoesOn (old : List Token) (start : Place) (all : List Mark) (now : List Token) (past : Place) (left : List Mark) : Type 0 where
  pub tokens : with_front now (read left) ≡ with_front old (read all)
  pub place_past : past_last past left ≡ past_last start all

pub begins : (old : List Token) (start : Place) (all : List Mark) → GoesOn old start all old start all
begins old start all = record { tokens = refl; place_past = refl }

module _ (old : List Token) (start : Place) (all : List Mark) (now : List Token) (past : Place) where
  same_left : (left left' : List Mark) → left ≡ left' → GoesOn old start all now past left → GoesOn old start all now past left'
  same_left left left' e h = subst (λ (m : List Mark). GoesOn old start all now past m) e h

  pub blank_passed : (line column : ℕ) (rest : List ℕ) → 0 < length rest → is_blank (get_or rest 0 0) ≡ true
      → GoesOn old start all now past (marks line column 0 rest) → GoesOn old start all now past (marks line (column + 1) 0 (drop 1 rest))
  blank_passed line column rest some blank h =
      same_left (marks line column 0 rest) (marks line (column + 1) 0 (drop 1 rest)) (marks-blank line column rest some blank) h

  pub token_passed : (line column : ℕ) (rest : List ℕ) (found : Lexeme) → 0 < length rest → is_blank (get_or rest 0 0) ≡ false → lexeme_at rest ≡ Ok found → 0 < found.width
      → GoesOn old start all now past (marks line column 0 rest)
      → GoesOn old start all (now ++ token_at found line column ∷ []) (place line (column + found.width)) (marks line (column + found.width) 0 (drop found.width rest))
  unfolding past_last
  token_passed line column rest found some blank e width h =
      let left = marks line (column + found.width) 0 (drop found.width rest) in
      let h' = same_left (marks line column 0 rest) (token (token_at found line column) found.width ∷ left) (marks-token line column rest found some blank e width) h in
      record { tokens = sym (read-token (token_at found line column) found.width left now) ∙ h'.tokens; place_past = h'.place_past }

  pub fault_met : (line column : ℕ) (rest : List ℕ) (f : Fault) → 0 < length rest → is_blank (get_or rest 0 0) ≡ false → lexeme_at rest ≡ Err f
      → GoesOn old start all now past (marks line column 0 rest) → read all ≡ Err (refusal_at f line column)
  fault_met line column rest f some blank e h =
      let met = marks-fault line column rest f some blank e in
      let h' = same_left (marks line column 0 rest) (fault (refusal_at f line column) ∷ met.0) met.1 h in
      fault_behind old (read all) (refusal_at f line column) (sym h'.tokens ∙ ap (with_front now) (read-fault (refusal_at f line column) met.0))

  pub all_passed : (line column : ℕ) (rest : List ℕ) → length rest ≡ 0 → GoesOn old start all now past (marks line column 0 rest)
      → (with_front old (read all) ≡ Ok now) × (past ≡ past_last start all)
  unfolding past_last
  all_passed line column rest none h =
      let e : marks line column 0 rest ≡ [] = rw (nil_from_length rest none) (marks-none line column) in
      let h' = same_left (marks line column 0 rest) [] e h in
      (sym h'.tokens ∙ read-none now, h'.place_past)

-- ---- one call behind another

pub pushes_then : {A : Type 0} (old mid new : List Token) (P : A → Type 0) (a b : List Mark) (result : Result A MapError) → with_front old (read a) ≡ Ok mid
    → Pushes mid new P b result → Pushes old new P (a ++ b) result
pushes_then old mid new P a b (Ok x) h q = (pushed-append old mid a b h ∙ q.0, q.1)
pushes_then old mid new P a b (Err (errors.Refused f)) h q = fault_behind old (read (a ++ b)) f (pushed-append old mid a b h ∙ ap (with_front mid) q)
pushes_then old mid new P a b (Err (errors.Memory e)) h q = tt

pub fails_then : (a b : List Mark) (e : MapError) → Fails a e → Fails (a ++ b) e
fails_then a b (errors.Refused f) h = fault-append f a b h
fails_then a b (errors.Memory e) h = tt

-- ---- no mark, or one token

abbrev Ends : Place → List Mark → Place → Type 0
Ends start found end = end ≡ past_last start found

pub none_read : (old : List Token) (start : Place) (found : List Mark) → found ≡ [] → (with_front old (read found) ≡ Ok old) × Ends start found start
unfolding past_last
none_read old start found e = rw e (read-none old, refl)

pub one_read : (old new : List Token) (start : Place) (found : List Mark) (t : Token) (width : ℕ) → found ≡ token t width ∷ [] → new ≡ old ++ t ∷ []
    → (with_front old (read found) ≡ Ok new) × Ends start found (place t.line (t.column + width))
unfolding past_last
one_read old new start found t width e pushed =
    rw (e, pushed) (read-token t width [] old ∙ read-none (old ++ t ∷ []), refl)

pub no_prefix : (part : Part) → prefix_kind part.form ≡ None → prefix_marks part ≡ []
unfolding prefix_marks
no_prefix part e = ap (λ (k : Option TokenKind). prefix_token k part) e

pub some_prefix : (part : Part) (kind : TokenKind) → prefix_kind part.form ≡ Some kind → prefix_marks part ≡ token (bare_token kind part.line part.start) (prefix_width part.form) ∷ []
unfolding prefix_marks
some_prefix part kind e = ap (λ (k : Option TokenKind). prefix_token k part) e

-- two calls whose places follow each other
pub pushes_on : (old mid new : List Token) (start middle : Place) (a b : List Mark) (result : Result Place MapError) → with_front old (read a) ≡ Ok mid → middle ≡ past_last start a
    → Pushes mid new (λ end. end ≡ past_last middle b) b result → Pushes old new (λ end. end ≡ past_last start (a ++ b)) (a ++ b) result
pushes_on old mid new start middle a b (Ok x) h e q =
    (pushed-append old mid a b h ∙ q.0, q.1 ∙ ap (λ (p : Place). past_last p b) e ∙ sym (past_last-append start a b))
pushes_on old mid new start middle a b (Err (errors.Refused f)) h e q = fault_behind old (read (a ++ b)) f (pushed-append old mid a b h ∙ ap (with_front mid) q)
pushes_on old mid new start middle a b (Err (errors.Memory m)) h e q = tt
