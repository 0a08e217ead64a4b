-- The sender of an element: the least coordinate in each dimension.
use Rattle.std.proofs.Common.{◌≡◌, ℕ, zero, suc, ◌+◌, ◌<◌, ◌≤◌, Bool, true, false, List, length, get_or, ℤ, arith, sym, ap, ◌∙◌, subst, refl, inl, inr}
use Rattle.std.specs.List.{filter, range_with_len}
use Rattle.std.proofs.lemmas.Bool.{false≢true, cases_lt, false_from_ne_true}
use Rattle.hpf_own.specs.Space.{product}
use Rattle.hpf_own.specs.Mapping.{PlainMapping, AreDims}
use Rattle.hpf_own.specs.Owners.{owns, sender, holds, IsLeast}
use Rattle.hpf_own.proofs.Digits.{digits, digits_order}
use Rattle.hpf_own.proofs.Each.{owns_digits, owns_from}

-- the first number that passes, of those from a on
pub first_skips : (q : ℕ → Bool) (a n : ℕ) → q a ≡ false → filter q (range_with_len a (suc n)) ≡ filter q (range_with_len (a + 1) n)
first_skips q a n e = rw e refl

pub first_stays : (q : ℕ → Bool) (a n d : ℕ) → q a ≡ true → get_or (filter q (range_with_len a (suc n))) 0 d ≡ a
first_stays q a n d e = rw e refl

pub first_is : (q : ℕ → Bool) (a n p d : ℕ) → a ≤ p → p < a + n → q p ≡ true → ((j : ℕ) → j < p → q j ≡ false) → get_or (filter q (range_with_len a n)) 0 d ≡ p
first_is q a zero p d low high h before = absurd (omega arith)
first_is q a (suc n) p d low high h before =
    elim (cases_lt a p) [
      | inl less ↦
          ap (λ (ps : List ℕ). get_or ps 0 d) (first_skips q a n (before a less)) ∙ first_is q (a + 1) n p d (omega arith) (omega arith) h before
      | inr more ↦
          let same : p ≡ a = omega arith in
          first_stays q a n d (subst (λ (j : ℕ). q j ≡ true) same h) ∙ sym same
    ]

-- coordinates that are least in each dimension make the sender
pub sender_from : (m : PlainMapping) (p : ℕ) (index : List ℤ) → AreDims m.bounds m.dims m.procs → p < product m.procs → ((e : ℕ) → e < length m.procs → IsLeast (holds m.dims index e) (get_or (digits m.procs p) e 0)) → (owns m p index ≡ true) × (sender m index ≡ p)
sender_from m p index dims below least =
    let owned = owns_from m p index dims below (λ e within. (least e within).passes) in
    let before : (j : ℕ) → j < p → owns m j index ≡ false = λ j less.
    false_from_ne_true (owns m j index) (λ other.
    let each = owns_digits m j index dims (omega arith) other in
    let order = digits_order m.procs p j below (λ e within.
    elim (cases_lt (get_or (digits m.procs j) e 0) (get_or (digits m.procs p) e 0)) [
      | inl lower ↦ absurd (false≢true (sym ((least e within).least _ lower) ∙ each e within))
      | inr higher ↦ higher
    ]) in
    absurd (omega arith)) in
    (owned, first_is (λ j. owns m j index) 0 (product m.procs) p (product m.procs) (omega arith) (omega arith) owned before)
