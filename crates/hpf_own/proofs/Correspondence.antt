-- Elements that correspond under a permutation.
use Rattle.std.proofs.Common.{◌≡◌, ◌==◌, ℕ, zero, suc, ◌+◌, ◌-◌, ◌<◌, ◌≤◌, cond, List, [], ◌∷◌, length, get_or, set, take, below_more, ℤ, pos, neg_ℤ, ◌+ℤ◌, ◌-ℤ◌, ◌≤ℤ◌, ◌^◌, slice_get, Some, FitsSigned, w64, refl, sym, ap, ◌∙◌, subst, arith, inl, inr, eq-eqb}
use Rattle.std.specs.Prelude.{sum_by}
use Rattle.std.specs.List.{range_with_len, position_or_len}
use Rattle.std.specs.List.Sorted.{IsPermutation}
use Rattle.std.proofs.lemmas.Bool.{cases_eq, cases_order, ne_eqb}
use Rattle.std.proofs.lemmas.Int.{ints}
use Rattle.std.proofs.lemmas.Grind.{get_or-set_at}
use Rattle.std.proofs.lemmas.List.{get_or-set_other, get_or-take, length-take-le, same_lists, get_or_default}
use Rattle.std.proofs.lemmas.List.FromFn.{length-range_with_len, get_or-range_with_len, length-map-range_with_len, get_or-map-range_with_len, fill_by_all}
use Rattle.std.proofs.lemmas.List.Sums.{sum_by-cons, get_or-le-sum_by, sum_by_more_le}
use Rattle.std.proofs.lemmas.List.Sorted.{IsPermutation-sym, Contains-permutation, sum_by-IsPermutation}
use Rattle.std.proofs.lemmas.Option.{get_or_from_slice_get}
use Rattle.hpf_num.specs.declared.run.Run.{Run}
use Rattle.hpf_num.specs.Run.{extent, or_zero, LiesWithin}
use Rattle.hpf_own.specs.KeptLists.{no_run as no_bound}
use Rattle.hpf_own.specs.Lists.{IsPerm}
use Rattle.hpf_own.specs.Space.{LiesIn}
use Rattle.hpf_own.specs.Image.{subscript}
use Rattle.hpf_own.specs.Mapping.{AreInLimits}
use Rattle.hpf_own.specs.Correspondence.{bounds_at, offset, source, destination, ExtentsAgree, Corresponds, corresponding}
use Rattle.hpf_own.proofs.Indices.{LiesIn-at, LiesIn-length}
use Rattle.hpf_own.proofs.Order.{at_most, or_zero_is, extent_is, index_with}
use Rattle.hpf_own.proofs.Perms.{permutation_has}
use Rattle.hpf_num.specs.Limits.{integer_limit}

-- ---- the entries of a permutation
-- one where a number is x
is_at : ℕ → ℕ → ℕ
is_at x y = cond (y == x) 1 0

counts_itself : (x : ℕ) → is_at x x ≡ 1
unfolding is_at
counts_itself x = rw (eq-eqb x x refl) refl

counts_none : (x a n : ℕ) → x < a → sum_by (is_at x) (range_with_len a n) ≡ 0
unfolding is_at
counts_none x a zero below = refl
counts_none x a (suc n) below =
    sum_by-cons (is_at x) a (range_with_len (a + 1) n)
    ∙ rw (ne_eqb a x (λ e. absurd (omega arith)), counts_none x (a + 1) n (omega arith)) refl

counts_once : (x a n : ℕ) → sum_by (is_at x) (range_with_len a n) ≤ 1
unfolding is_at
counts_once x a zero = omega arith
counts_once x a (suc n) =
    let c = sum_by-cons (is_at x) a (range_with_len (a + 1) n) in
    elim (cases_eq a x) [
      | inl same ↦
          let here : is_at x a ≡ 1 = rw same (counts_itself x) in
          omega (arith, c, here, counts_none x (a + 1) n (omega arith))
      | inr other ↦
          let here : is_at x a ≡ 0 = rw (ne_eqb a x other) refl in
          omega (arith, c, here, counts_once x (a + 1) n)
    ]

-- an entry that comes later is another one
later_differs : (n : ℕ) (perm : List ℕ) (i j : ℕ) → IsPermutation (range_with_len 1 n) perm → i < j → j < length perm → get_or perm i 0 ≡ get_or perm j 0 → ⊥
later_differs n perm i j h less below same =
    let x = get_or perm j 0 in
    let most = sum_by-IsPermutation (is_at x) (range_with_len 1 n) perm h in
    let long : length (take j perm) ≡ j = length-take-le j perm (omega arith) in
    let first : get_or (take j perm) i 0 ≡ x = get_or-take j perm i 0 less ∙ same in
    let one : is_at x (get_or (take j perm) i 0) ≡ 1 = rw first (counts_itself x) in
    let part = get_or-le-sum_by (is_at x) (take j perm) i 0 (omega arith) in
    let whole = sum_by_more_le (is_at x) perm j 0 below in
    omega (arith, most, one, part, whole, counts_once x 1 n, counts_itself x)

pub one_place : (perm : List ℕ) (i j : ℕ) → IsPerm perm → i < length perm → j < length perm → get_or perm i 0 ≡ get_or perm j 0 → i ≡ j
one_place perm i j is within below same =
    elim (cases_order i j) [
      | inl at ↦ at
      | inr other ↦
          elim other [
            | inl less ↦ absurd (later_differs (length perm) perm i j is.permutes less below same)
            | inr more ↦ absurd (later_differs (length perm) perm j i is.permutes more within (sym same))
          ]
    ]

-- a permutation's entries lie from 1 to their number
pub entry_within : (perm : List ℕ) (d : ℕ) → IsPerm perm → d < length perm → (1 ≤ get_or perm d 0) × (get_or perm d 0 ≤ length perm)
entry_within perm d is below =
    let n = length perm in
    let among = Contains-permutation _ _ (get_or perm d 0) (IsPermutation-sym _ _ is.permutes) (d, below, get_or_default perm d (get_or perm d 0) 0 below) in
    let within : among.0 < n = omega (arith, among.1, length-range_with_len 1 n) in
    let at = get_or-range_with_len 1 n among.0 (get_or perm d 0) within in
    (omega (arith, at, among.2), omega (arith, at, among.2))

-- the first place of a number
first_place : (xs : List ℕ) (x k : ℕ) → k < length xs → get_or xs k 0 ≡ x → ((j : ℕ) → j < k → get_or xs j 0 ≡ x → ⊥) → position_or_len (λ e. e == x) xs ≡ k
first_place [] x k below at before = absurd (omega arith)
first_place (y ∷ xs) x zero below at before = rw (eq-eqb y x at) refl
first_place (y ∷ xs) x (suc k) below at before =
    let other : y ≡ x → ⊥ = before 0 (omega arith) in
    let rest = first_place xs x k (omega arith) at (λ j less. before (suc j) (omega arith)) in
    rw (ne_eqb y x other) (omega (arith, rest))

-- where a dimension comes from and where it goes are each other's inverse
pub source_below : (perm : List ℕ) (d : ℕ) → IsPerm perm → d < length perm → source perm d < length perm
source_below perm d is below = let e = entry_within perm d is below in omega (arith, e.0, e.1)

pub destination_of_source : (perm : List ℕ) (d : ℕ) → IsPerm perm → d < length perm → destination perm (source perm d) ≡ d
destination_of_source perm d is below =
    let e = entry_within perm d is below in
    let entry : source perm d + 1 ≡ get_or perm d 0 = omega (arith, e.0) in
    first_place perm (source perm d + 1) d below (sym entry) (λ j less same.
    let at = one_place perm j d is (omega arith) below (same ∙ entry) in
    absurd (omega arith))

pub source_of_destination : (perm : List ℕ) (k : ℕ) → IsPerm perm → k < length perm → (destination perm k < length perm) × (source perm (destination perm k) ≡ k)
source_of_destination perm k is below =
    let at = permutation_has (length perm) perm k is.permutes below in
    let d = at.0 in
    let entry : get_or perm d 0 ≡ k + 1 = get_or_default perm d 0 (k + 1) at.1 ∙ at.2 in
    let from : source perm d ≡ k = omega (arith, entry) in
    let there : destination perm k ≡ d = ap (destination perm) (sym from) ∙ destination_of_source perm d is at.1 in
    (rw there at.1, rw there from)

-- ---- the element of the array before
pub corresponding_at : (from to : List Run) (perm : List ℕ) (i : List ℤ) (k : ℕ) → k < length perm → subscript (corresponding from to perm i) k ≡ (bounds_at from k).low +ℤ offset to i (destination perm k)
corresponding_at from to perm i k below =
    get_or-map-range_with_len (λ k. (bounds_at from k).low +ℤ offset to i (destination perm k)) 0 (length perm) k k (pos 0) below (omega arith)

length-corresponding : (from to : List Run) (perm : List ℕ) (i : List ℤ) → length (corresponding from to perm i) ≡ length perm
length-corresponding from to perm i =
    length-map-range_with_len (λ k. (bounds_at from k).low +ℤ offset to i (destination perm k)) 0 (length perm)

above_low : (low x y : ℤ) → x ≡ low +ℤ y → x -ℤ low ≡ y
above_low low x y e = omega (arith, ints)

from_low : (low x y : ℤ) → x -ℤ low ≡ y → x ≡ low +ℤ y
from_low low x y e = omega (arith, ints)

pub corresponds : (from to : List Run) (perm : List ℕ) (i : List ℤ) → IsPerm perm → length i ≡ length perm → Corresponds from to perm (corresponding from to perm i) i
corresponds from to perm i is long =
    record {
      before = length-corresponding from to perm i;
      receiving = long;
      offsets = λ d below.
          let k = source perm d in
          above_low (bounds_at from k).low (subscript (corresponding from to perm i) k) (offset to i d)
          (corresponding_at from to perm i k (source_below perm d is below) ∙ ap (λ (e : ℕ). (bounds_at from k).low +ℤ offset to i e) (destination_of_source perm d is below));
    }

-- and it alone does
pub corresponding_only : (from to : List Run) (perm : List ℕ) (j i : List ℤ) → IsPerm perm → Corresponds from to perm j i → j ≡ corresponding from to perm i
corresponding_only from to perm j i is h =
    fill_by_all (λ k. (bounds_at from k).low +ℤ offset to i (destination perm k)) j (length perm) (pos 0) h.before (λ k below.
    let d = destination perm k in
    let there = source_of_destination perm k is below in
    from_low (bounds_at from k).low (subscript j k) (offset to i d)
    (ap (λ (e : ℕ). offset from j e) (sym there.1) ∙ h.offsets d there.0))

-- ---- bounds to bounds
-- an offset below the extent
moved_within : (low high other top x : ℤ) → low ≤ℤ x → x ≤ℤ high → extent (record { low = low; high = high }) ≡ extent (record { low = other; high = top }) → LiesWithin (record { low = other; high = top }) (other +ℤ (x -ℤ low))
moved_within low high other top x least most same =
    let there : Run = record { low = other; high = top } in
    let k = or_zero (x -ℤ low) in
    let is : pos k ≡ x -ℤ low = or_zero_is (x -ℤ low) (omega (arith, ints)) in
    let within : k < or_zero (high -ℤ low +ℤ pos 1) = at_most (high -ℤ low +ℤ pos 1) k (omega (arith, ints)) in
    subst (λ (y : ℤ). LiesWithin there (other +ℤ y)) is (extent_is there k (subst (λ (n : ℕ). k < n) same within))

pub LiesIn-from : (bounds : List Run) (index : List ℤ) → length index ≡ length bounds → ((d : ℕ) → d < length bounds → LiesWithin (get_or bounds d no_bound) (get_or index d (pos 0))) → LiesIn bounds index
LiesIn-from [] [] long each = tt
LiesIn-from [] (i ∷ index) long each = absurd (omega arith)
LiesIn-from (run ∷ bounds) [] long each = absurd (omega arith)
LiesIn-from (run ∷ bounds) (i ∷ index) long each = (each 0 (omega arith), LiesIn-from bounds index (omega arith) (λ d below. each (suc d) (omega arith)))

pub corresponding_within : (from to : List Run) (perm : List ℕ) (i : List ℤ) → IsPerm perm → ExtentsAgree from to perm → LiesIn to i → LiesIn from (corresponding from to perm i)
corresponding_within from to perm i is agree lies =
    LiesIn-from from (corresponding from to perm i) (length-corresponding from to perm i ∙ sym agree.before) (λ k below.
    let inside : k < length perm = omega (arith, agree.before) in
    let d = destination perm k in
    let there = source_of_destination perm k is inside in
    let at = LiesIn-at to i d no_bound (pos 0) lies (omega (arith, agree.receiving, there.0)) in
    let same : extent (bounds_at to d) ≡ extent (bounds_at from k) = agree.extents d there.0 ∙ ap (λ (e : ℕ). extent (bounds_at from e)) there.1 in
    subst (LiesWithin (bounds_at from k)) (sym (corresponding_at from to perm i k inside))
    (moved_within (bounds_at to d).low (bounds_at to d).high (bounds_at from k).low (bounds_at from k).high (subscript i d) at.least at.greatest same))

-- each element of the array before corresponds to one
pub received : (from to : List Run) (perm : List ℕ) (j : List ℤ) → IsPerm perm → ExtentsAgree from to perm → LiesIn from j → (i : List ℤ) × LiesIn to i × Corresponds from to perm j i
received from to perm j is agree lies =
    let P : ℕ → ℤ → Type 0 = λ d x. x ≡ (bounds_at to d).low +ℤ offset from j (source perm d) in
    let found = index_with to P (λ d below.
    let inside : d < length perm = omega (arith, agree.receiving) in
    let k = source perm d in
    let at = LiesIn-at from j k no_bound (pos 0) lies (omega (arith, agree.before, source_below perm d is inside)) in
    ((bounds_at to d).low +ℤ offset from j k, moved_within (bounds_at from k).low (bounds_at from k).high (bounds_at to d).low (bounds_at to d).high (subscript j k) at.least at.greatest (sym (agree.extents d inside)), refl)) in (
      found.0,
      found.1,
      record {
        before = LiesIn-length from j lies ∙ agree.before;
        receiving = LiesIn-length to found.0 found.1 ∙ agree.receiving;
        offsets = λ d below. sym (above_low (bounds_at to d).low (subscript found.0 d) (offset from j (source perm d)) (found.2 d (omega (arith, agree.receiving))));
      },
    )

one_offset : (x y low : ℤ) → x -ℤ low ≡ y -ℤ low → x ≡ y
one_offset x y low e = omega (arith, ints)

-- and to one alone
pub one_received : (from to : List Run) (perm : List ℕ) (j i k : List ℤ) → Corresponds from to perm j i → Corresponds from to perm j k → i ≡ k
one_received from to perm j i k h o =
    same_lists i k (h.receiving ∙ sym o.receiving) (λ d e below.
    let inside : d < length perm = omega (arith, h.receiving) in
    let same : offset to i d ≡ offset to k d = sym (h.offsets d inside) ∙ o.offsets d inside in
    get_or_default i d e (pos 0) below ∙ one_offset (subscript i d) (subscript k d) (bounds_at to d).low same ∙ get_or_default k d (pos 0) e (omega (arith, h.receiving, o.receiving)))

-- ---- written one dimension after another
pub one_source : (perm : List ℕ) (i j : ℕ) → IsPerm perm → i < length perm → j < length perm → source perm i ≡ source perm j → i ≡ j
one_source perm i j is within below same =
    let a = entry_within perm i is within in
    let b = entry_within perm j is below in
    one_place perm i j is within below (omega (arith, a.0, b.0))

-- the subscripts of the array before that are written, for the dimensions of the receiving one before this
abbrev pub AreMoved : List Run → List Run → List ℕ → List ℤ → List ℤ → ℕ → Type 0
AreMoved from to perm i into d = (e : ℕ) → e < d → get_or into (source perm e) (pos 0) ≡ (bounds_at from (source perm e)).low +ℤ offset to i e

pub moved_more : (from to : List Run) (perm : List ℕ) (i into : List ℤ) (d k : ℕ) (x : ℤ) → IsPerm perm → d < length perm → length into ≡ length perm → k ≡ source perm d → x ≡ (bounds_at from (source perm d)).low +ℤ offset to i d → AreMoved from to perm i into d → AreMoved from to perm i (set into k x) (d + 1)
moved_more from to perm i into d k x is below long at value h =
    let there : k < length into = rw at (omega (arith, source_below perm d is below)) in
    below_more (λ e. get_or (set into k x) (source perm e) (pos 0) ≡ (bounds_at from (source perm e)).low +ℤ offset to i e) d
    (λ e less.
    let other : source perm e ≡ k → ⊥ = λ same. let one = one_source perm e d is (omega arith) below (same ∙ at) in absurd (omega arith) in
    get_or-set_other into k (source perm e) x (pos 0) other ∙ h e less)
    (get_or-set_at into k (source perm d) x (pos 0) (sym at) there ∙ value)

pub moved_all : (from to : List Run) (perm : List ℕ) (i into : List ℤ) (d : ℕ) → IsPerm perm → length into ≡ length perm → length perm ≤ d → AreMoved from to perm i into d → into ≡ corresponding from to perm i
moved_all from to perm i into d is long end h =
    fill_by_all (λ k. (bounds_at from k).low +ℤ offset to i (destination perm k)) into (length perm) (pos 0) long (λ k below.
    let there = source_of_destination perm k is below in
    ap (λ (j : ℕ). get_or into j (pos 0)) (sym there.1)
    ∙ h (destination perm k) (omega (arith, there.0))
    ∙ ap (λ (j : ℕ). (bounds_at from j).low +ℤ offset to i (destination perm k)) there.1)

-- ---- what the code asks
pub record CanMove (low i other : ℤ) : Type 0 where
  pub low_fits : FitsSigned w64 low
  pub fits : FitsSigned w64 i
  pub other_fits : FitsSigned w64 other
  pub above : low ≤ℤ i
  pub near : (i -ℤ low) ≤ℤ pos (2 ^ 32)
  pub room : (other +ℤ (i -ℤ low)) ≤ℤ pos (2 ^ 63 - 1)

can_move_small : (low high i other top : ℤ) → neg_ℤ (pos integer_limit) ≤ℤ low → low ≤ℤ i → i ≤ℤ high → high ≤ℤ pos integer_limit → neg_ℤ (pos integer_limit) ≤ℤ other → (other +ℤ (i -ℤ low)) ≤ℤ top → top ≤ℤ pos integer_limit → CanMove low i other
can_move_small low high i other top a b c d e f g =
    record {
      low_fits = omega (arith, ints);
      fits = omega (arith, ints);
      other_fits = omega (arith, ints);
      above = b;
      near = omega (arith, ints);
      room = omega (arith, ints);
    }

pub can_move : (from to : List Run) (perm : List ℕ) (i : List ℤ) (d : ℕ) (r s : Run) → IsPerm perm → AreInLimits from → AreInLimits to → ExtentsAgree from to perm → LiesIn to i → d < length perm → slice_get to d ≡ Some r → slice_get from (source perm d) ≡ Some s → CanMove r.low (subscript i d) s.low
can_move from to perm i d r s is before receiving agree lies below here there =
    let k = source perm d in
    let run : bounds_at to d ≡ r = get_or_from_slice_get to d r no_bound here in
    let other : bounds_at from k ≡ s = get_or_from_slice_get from k s no_bound there in
    let inside : d < length to = omega (arith, agree.receiving) in
    let within : k < length from = omega (arith, agree.before, source_below perm d is below) in
    let at = LiesIn-at to i d no_bound (pos 0) lies inside in
    let b = bounds_at to d in
    let o = bounds_at from k in
    let moved = moved_within b.low b.high o.low o.high (subscript i d) at.least at.greatest (agree.extents d below) in
    subst (λ (x : Run). CanMove x.low (subscript i d) s.low) run
    (subst (λ (x : Run). CanMove b.low (subscript i d) x.low) other
    (can_move_small b.low b.high (subscript i d) o.low o.high (receiving.least d no_bound inside) at.least at.greatest (receiving.greatest d no_bound inside) (before.least k no_bound within) moved.greatest (before.greatest k no_bound within)))

pub moved_value : (from to : List Run) (perm : List ℕ) (i : List ℤ) (d : ℕ) (r s : Run) → slice_get to d ≡ Some r → slice_get from (source perm d) ≡ Some s → s.low +ℤ (subscript i d -ℤ r.low) ≡ (bounds_at from (source perm d)).low +ℤ offset to i d
moved_value from to perm i d r s here there =
    let run : bounds_at to d ≡ r = get_or_from_slice_get to d r no_bound here in
    let other : bounds_at from (source perm d) ≡ s = get_or_from_slice_get from (source perm d) s no_bound there in
    ap (λ (x : Run). x.low +ℤ (subscript i d -ℤ r.low)) (sym other)
    ∙ ap (λ (x : Run). (bounds_at from (source perm d)).low +ℤ (subscript i d -ℤ x.low)) (sym run)
