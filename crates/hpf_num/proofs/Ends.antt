-- Where the runs of ascending integers begin and end.
use Rattle.std.proofs.Common.{◌≡◌, ℕ, ◌+◌, ◌-◌, ◌<◌, ◌≤◌, Bool, true, false, List, [], ◌∷◌, ◌++◌, length, take, drop, filter, get_or, slice_get, Some, ℤ, pos, ◌+ℤ◌, ◌-ℤ◌, arith, refl, sym, ap, ◌∙◌, inl, inr, take-append-drop, length-append}
use Rattle.std.specs.Ordering.{int_eq}
use Rattle.std.proofs.lemmas.Int.{ints}
use Rattle.std.proofs.lemmas.Bool.{cases_lt, false≢true, false_from_ne_true}
use Rattle.std.proofs.lemmas.List.{get_or_at, get_or_append_left, length_push}
use Rattle.std.proofs.lemmas.List.Elements.{filter-append, filter_more}
use Rattle.std.proofs.lemmas.Option.{slice_get-get_or}
use Rattle.hpf_num.specs.Runs.{AreMembers, has}
use Rattle.hpf_num.proofs.Members.{passed, eq_true, has_at, upto}

-- the integer before a member is the one at the place before
pub before_it : (members : List ℤ) (p : ℕ) → AreMembers members → p < length members → has members (get_or members p (pos 0) -ℤ pos 1) ≡ true → (1 ≤ p) × (get_or members (p - 1) (pos 0) ≡ (get_or members p (pos 0) -ℤ pos 1))
before_it members p h below is =
    let f = passed (λ j. int_eq j (get_or members p (pos 0) -ℤ pos 1)) members (pos 0) is in
    let e = eq_true _ (get_or members p (pos 0) -ℤ pos 1) f.passes in
    let fb = f.below in
    elim (cases_lt f.place p) [
      | inl less ↦
          let u = upto members (p - 1) f.place h.ascending (omega arith) (omega arith) in
          let l = h.ascending (p - 1) p (pos 0) (omega arith) below in
          (omega arith, omega (arith, ints))
      | inr most ↦ let u = upto members f.place p h.ascending fb most in absurd (omega (arith, ints))
    ]

-- a run begins with the first member, and where the one before isn't the integer before
pub starts_first : (members : List ℤ) (p : ℕ) → AreMembers members → p < length members → p ≡ 0 → has members (get_or members p (pos 0) -ℤ pos 1) ≡ false
starts_first members p h below first =
    false_from_ne_true _ (λ is. let b = (before_it members p h below is).0 in absurd (omega arith))

pub starts_apart : (members : List ℤ) (p : ℕ) → AreMembers members → p < length members → (get_or members (p - 1) (pos 0) ≡ (get_or members p (pos 0) -ℤ pos 1) → ⊥) → has members (get_or members p (pos 0) -ℤ pos 1) ≡ false
starts_apart members p h below other =
    false_from_ne_true _ (λ is. other (before_it members p h below is).1)

pub starts_behind : (members : List ℤ) (p : ℕ) → 1 ≤ p → p < length members → get_or members (p - 1) (pos 0) ≡ (get_or members p (pos 0) -ℤ pos 1) → has members (get_or members p (pos 0) -ℤ pos 1) ≡ true
starts_behind members p some below is = has_at members (p - 1) _ (omega arith) is

-- no member follows the last one, or the one before a start
pub ends_last : (members : List ℤ) (p : ℕ) → AreMembers members → p < length members → (p + 1 < length members → has members (get_or members (p + 1) (pos 0) -ℤ pos 1) ≡ false) → has members (get_or members p (pos 0) +ℤ pos 1) ≡ false
ends_last members p h below start =
    false_from_ne_true _
    (λ is.
    let f = passed (λ j. int_eq j (get_or members p (pos 0) +ℤ pos 1)) members (pos 0) is in
    let e = eq_true _ (get_or members p (pos 0) +ℤ pos 1) f.passes in
    let fb = f.below in
    elim (cases_lt p f.place) [
      | inl more ↦
          let u = upto members f.place (p + 1) h.ascending fb (omega arith) in
          let l = h.ascending p (p + 1) (pos 0) (omega arith) (omega arith) in
          let here : get_or members p (pos 0) ≡ (get_or members (p + 1) (pos 0) -ℤ pos 1) = omega (arith, ints) in
          absurd (false≢true (sym (start (omega arith)) ∙ has_at members p _ below here))
      | inr least ↦ let u = upto members p f.place h.ascending below least in absurd (omega (arith, ints))
    ])

-- the start that so many come before
pub start_at : (p : ℤ → Bool) (members : List ℤ) (place : ℕ) → place < length members → p (get_or members place (pos 0)) ≡ true → slice_get (filter p members) (length (filter p (take place members))) ≡ Some (get_or members place (pos 0))
start_at p members place below passes =
    let x = get_or members place (pos 0) in
    let before = filter p (take place members) in
    let rest = filter p (drop (place + 1) members) in
    let more : filter p (take (place + 1) members) ≡ before ++ x ∷ [] = filter_more p members place (pos 0) below ∙ rw passes refl in
    let whole : filter p members ≡ (before ++ x ∷ []) ++ rest =
    ap (filter p) (sym (take-append-drop (place + 1) members)) ∙ filter-append p (take (place + 1) members) (drop (place + 1) members) ∙ ap (λ (xs : List ℤ). xs ++ rest) more in
    let long : length before < length (before ++ x ∷ []) = omega (arith, length_push before x) in
    let at : get_or ((before ++ x ∷ []) ++ rest) (length before) (pos 0) ≡ x =
    get_or_append_left (before ++ x ∷ []) rest (pos 0) (length before) long ∙ get_or_at before x [] (pos 0) (length before) refl in
    rw whole (slice_get-get_or ((before ++ x ∷ []) ++ rest) (length before) (pos 0) (omega (arith, length-append (before ++ x ∷ []) rest)) ∙ ap (λ (z : ℤ). Some z) at)
