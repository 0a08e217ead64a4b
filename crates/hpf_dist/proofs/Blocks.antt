-- Blocks that lie one after another.
use Rattle.std.proofs.Common.{◌≡◌, ℕ, zero, suc, ◌+◌, ◌-◌, ◌<◌, ◌≤◌, Bool, true, false, leb, List, length, get_or, take, find, unwrap_or, slice_get, sum, Some, refl, sym, ap, ◌∙◌, arith, subst, ⊎_elim}
use Rattle.std.proofs.lemmas.Bool.{leb-true, leb-false, le-leb, lt-ltb, le-ltb, and_from, and_right, cases_order, cases_lt, cond-true, cond-false}
use Rattle.std.proofs.lemmas.List.{take-take, take_all}
use Rattle.std.proofs.lemmas.Option.{slice_get_within, get_or_from_slice_get}
use Rattle.std.proofs.lemmas.List.FromFn.{get_or-map-range_with_len, length-map-range_with_len}
use Rattle.std.proofs.lemmas.List.Sums.{sum_by-take-le}
use Rattle.std.specs.List.{range_with_len}
use Rattle.std.specs.List.Sorted.{IsNonDecreasingBy, IsPartitionPoint}
use Rattle.hpf_dist.specs.Owner.{own, is_in_block}
use Rattle.hpf_dist.specs.Sums.{sum_of_first, sums}
use Rattle.hpf_dist.specs.declared.format.Format.TheVariants.{GenBlock}

-- more items come to no less
pub sum_rises : (items : List ℕ) (i j : ℕ) → i ≤ j → sum_of_first items i ≤ sum_of_first items j
sum_rises items i j h =
    subst (λ (s : ℕ). s ≤ sum_of_first items j) (ap (λ (xs : List ℕ). sum xs) (take-take i j items h)) (sum_by-take-le (λ (x : ℕ). x) (take j items) i)

pub sum_of_all : (items : List ℕ) (n : ℕ) → length items ≡ n → sum_of_first items n ≡ sum items
sum_of_all items n e = ap (λ (xs : List ℕ). sum xs) (take_all n items (omega arith))

pub length-sums : (items : List ℕ) → length (sums items) ≡ length items
length-sums items = length-map-range_with_len (λ k. sum_of_first items (k + 1)) 0 (length items)

pub sums_at : (items : List ℕ) (k d : ℕ) → k < length items → get_or (sums items) k d ≡ sum_of_first items (k + 1)
sums_at items k d h =
    get_or-map-range_with_len (λ k. sum_of_first items (k + 1)) 0 (length items) k k d h (omega arith)

-- the last of them is the sum of all
pub last_sum : (items ends : List ℕ) (end : ℕ) → ends ≡ sums items → Some end ≡ slice_get ends (length ends - 1) → end ≡ sum items
last_sum items ends end is at =
    let some = slice_get_within ends (length ends - 1) end (sym at) in
    let last = get_or_from_slice_get ends (length ends - 1) end 0 (sym at) in
    let many = ap (λ (xs : List ℕ). length xs) is ∙ length-sums items in
    let sum_at = sums_at items (length ends - 1) 0 (omega (arith, some, many)) in
    let all = sum_of_all items (length ends - 1 + 1) (omega (arith, some, many)) in
    sym last ∙ (ap (λ (xs : List ℕ). get_or xs (length ends - 1) 0) is ∙ (sum_at ∙ all))

pub sums_rise : (items : List ℕ) → IsNonDecreasingBy (λ (s : ℕ). s) (sums items)
sums_rise items i j d order within =
    let n = length-sums items in
    let low = sums_at items i d (omega arith) in
    let high = sums_at items j d (omega arith) in
    omega (arith, low, high, sum_rises items (i + 1) (j + 1) (omega arith))

-- where the sums pass x, the blocks before come to at most x
before_point : (items : List ℕ) (x point k : ℕ) → IsPartitionPoint (λ s. leb s x ≡ true) (λ s. leb s x ≡ false) (sums items) point → k ≤ point → k ≤ length items → sum_of_first items k ≤ x
before_point items x point zero h le within = omega arith
before_point items x point (suc k) h le within =
    let is = sums_at items k 0 (omega arith) in
    let below = leb-true _ _ (h.0 k 0 (omega arith) (omega arith)) in
    let same : suc k ≡ k + 1 = omega arith in
    rw same (omega (arith, is, below))

-- there is a block there
pub some_block : (items : List ℕ) (x point : ℕ) → x < sum items → IsPartitionPoint (λ s. leb s x ≡ true) (λ s. leb s x ≡ false) (sums items) point → point < length items
some_block items x point within h =
    let all = sum_of_all items (length items) refl in
    ⊎_elim (λ l. l) (λ above. absurd (omega (arith, all, before_point items x point (length items) h above (omega arith)))) (cases_lt point (length items))

pub block_from : (items : List ℕ) (x point : ℕ) → x < sum items → IsPartitionPoint (λ s. leb s x ≡ true) (λ s. leb s x ≡ false) (sums items) point → sum_of_first items point ≤ x
block_from items x point within h =
    before_point items x point point h (omega arith) (omega (arith, some_block items x point within h))

pub block_to : (items : List ℕ) (x point : ℕ) → x < sum items → IsPartitionPoint (λ s. leb s x ≡ true) (λ s. leb s x ≡ false) (sums items) point → x < sum_of_first items (point + 1)
block_to items x point within h =
    let some = some_block items x point within h in
    let is = sums_at items point 0 some in
    let above = leb-false _ _ (h.1 point 0 (omega arith) (omega (arith, length-sums items))) in
    omega (arith, is, above)

-- the first number that passes
find_first : (p : ℕ → Bool) (a n c : ℕ) → a ≤ c → c < a + n → p c ≡ true → ((j : ℕ) → a ≤ j → j < c → p j ≡ false) → find p (range_with_len a n) ≡ Some c
find_first p a zero c low high passes fails = absurd (omega arith)
find_first p a (suc n) c low high passes fails =
    let rest = find p (range_with_len (a + 1) n) in
    ⊎_elim
    (λ (is : a ≡ c). cond-true (p a) (Some a) rest (ap p is ∙ passes) ∙ ap (λ (k : ℕ). Some k) is)
    (⊎_elim
    (λ (below : a < c). cond-false (p a) (Some a) rest (fails a (omega arith) below) ∙ find_first p (a + 1) n c (omega arith) (omega arith) passes (λ j l h. fails j (omega arith) h))
    (λ (above : c < a). absurd (omega arith)))
    (cases_order a c)

-- The owner under GEN_BLOCK is the coordinate of the block that has the position.
pub own_in_block : (lengths : List ℕ) (n x c : ℕ) → c < n → sum_of_first lengths c ≤ x → x < sum_of_first lengths (c + 1) → own (GenBlock lengths) n x ≡ c
own_in_block lengths n x c within from to =
    let holds : is_in_block lengths x c ≡ true = and_from _ _ (le-leb _ _ from) (lt-ltb _ _ to) in
    let others : (j : ℕ) → 0 ≤ j → j < c → is_in_block lengths x j ≡ false =
    λ j low before.
    let before : sum_of_first lengths (j + 1) ≤ x = omega (arith, from, sum_rises lengths (j + 1) c (omega arith)) in
    and_right _ _ (le-ltb _ _ before) in
    ap (λ o. unwrap_or o 0) (find_first (is_in_block lengths x) 0 n c (omega arith) (omega arith) holds others)
