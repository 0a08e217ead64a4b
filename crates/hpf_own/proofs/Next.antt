-- The numbers of a set in order.
use Rattle.std.proofs.Common.{◌≡◌, ℕ, zero, suc, ◌+◌, ◌-◌, ◌<◌, ◌≤◌, Bool, true, false, ◌&&◌, ltb, List, [], ◌∷◌, ◌++◌, arith, sym, ap, ◌∙◌, refl, zero-add, add-zero, append-nil}
use Rattle.std.specs.List.{filter, range_with_len}
use Rattle.std.specs.Int.{bit_at}
use Rattle.std.proofs.lemmas.Bool.{lt-ltb, ltb-true, and_parts}
use Rattle.std.proofs.lemmas.List.Elements.{filter-append}
use Rattle.hpf_own.specs.OwnerSet.{bit_of, IsSetOf}

-- ---- filters of numbers
filter_skips : (q : ℕ → Bool) (a n : ℕ) → q a ≡ false → filter q (range_with_len a (suc n)) ≡ filter q (range_with_len (a + 1) n)
filter_skips q a n e = rw e refl

pub filter_nothing : (q : ℕ → Bool) (a n : ℕ) → ((k : ℕ) → a ≤ k → k < a + n → q k ≡ false) → filter q (range_with_len a n) ≡ []
filter_nothing q a zero h = refl
filter_nothing q a (suc n) h =
    filter_skips q a n (h a (omega arith) (omega arith)) ∙ filter_nothing q (a + 1) n (λ k low high. h k (omega arith) (omega arith))

suc_add : (n m : ℕ) → suc n + m ≡ suc (n + m)
suc_add n m = omega arith

range-add : (a n m : ℕ) → range_with_len a (n + m) ≡ range_with_len a n ++ range_with_len (a + n) m
range-add a zero m = rw (zero-add m, add-zero a) refl
range-add a (suc n) m =
    let e : a + suc n ≡ (a + 1) + n = omega arith in
    rw (suc_add n m, e, range-add (a + 1) n m) refl

-- the numbers up to one that passes, of which none from another on does
pub filter_more : (q : ℕ → Bool) (from p : ℕ) → from ≤ p → q p ≡ true → ((k : ℕ) → from ≤ k → k < p → q k ≡ false) → filter q (range_with_len 0 (p + 1)) ≡ filter q (range_with_len 0 from) ++ p ∷ []
filter_more q from p low h before =
    let whole : p + 1 ≡ from + ((p - from) + 1) = omega arith in
    let at : from + (p - from) ≡ p = omega arith in
    let one : filter q (range_with_len p 1) ≡ p ∷ [] = rw h refl in
    ap (λ (n : ℕ). filter q (range_with_len 0 n)) whole
    ∙ ap (λ (ks : List ℕ). filter q ks) (range-add 0 from ((p - from) + 1))
    ∙ filter-append q (range_with_len 0 from) (range_with_len (0 + from) ((p - from) + 1))
    ∙ ap (λ (ks : List ℕ). filter q (range_with_len 0 from) ++ ks)
    (ap (λ (a : ℕ). filter q (range_with_len a ((p - from) + 1))) (zero-add from)
    ∙ ap (λ (ks : List ℕ). filter q ks) (range-add from (p - from) 1)
    ∙ filter-append q (range_with_len from (p - from)) (range_with_len (from + (p - from)) 1)
    ∙ ap (λ (ks : List ℕ). ks ++ filter q (range_with_len (from + (p - from)) 1)) (filter_nothing q from (p - from) (λ k least most. before k least (omega arith)))
    ∙ ap (λ (a : ℕ). filter q (range_with_len a 1)) at ∙ one)

-- none passes from a number on
pub filter_all : (q : ℕ → Bool) (from n : ℕ) → from ≤ n → ((k : ℕ) → from ≤ k → k < n → q k ≡ false) → filter q (range_with_len 0 n) ≡ filter q (range_with_len 0 from)
filter_all q from n low none =
    let whole : n ≡ from + (n - from) = omega arith in
    ap (λ (m : ℕ). filter q (range_with_len 0 m)) whole
    ∙ ap (λ (ks : List ℕ). filter q ks) (range-add 0 from (n - from))
    ∙ filter-append q (range_with_len 0 from) (range_with_len (0 + from) (n - from))
    ∙ ap (λ (ks : List ℕ). filter q (range_with_len 0 from) ++ ks)
    (ap (λ (a : ℕ). filter q (range_with_len a (n - from))) (zero-add from) ∙ filter_nothing q from (n - from) (λ k least most. none k least (omega arith)))
    ∙ append-nil _

-- ---- what a bit says
bit_set : (b : Bool) → bit_of b ≡ 1 → b ≡ true
bit_set true e = refl
bit_set false e = absurd (omega arith)

bit_clear : (b : Bool) → bit_of b ≡ 0 → b ≡ false
bit_clear false e = refl
bit_clear true e = absurd (omega arith)

pub in_set : (q : ℕ → Bool) (n set k : ℕ) → IsSetOf q n set → bit_at set k ≡ 1 → (k < n) × (q k ≡ true)
in_set q n set k h one =
    let both = and_parts (ltb k n) (q k) (bit_set _ (sym (h.bits k) ∙ one)) in
    (ltb-true k n both.0, both.1)

pub not_in_set : (q : ℕ → Bool) (n set k : ℕ) → IsSetOf q n set → bit_at set k ≡ 0 → k < n → q k ≡ false
not_in_set q n set k h none within =
    ap (λ (t : Bool). t && q k) (sym (lt-ltb k n within)) ∙ bit_clear _ (sym (h.bits k) ∙ none)
