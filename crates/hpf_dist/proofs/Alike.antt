-- Positions around one that are sure to have its owner.
use Rattle.std.proofs.Common.{◌≡◌, ℕ, zero, suc, ◌+◌, ◌-◌, ◌*◌, ◌/◌, ◌%◌, ◌^◌, ◌<◌, ◌≤◌, ◌==◌, false, List, length, get_or, All, ℤ, pos, negsuc, neg_ℤ, ◌+ℤ◌, ◌*ℤ◌, ◌≤ℤ◌, ◌<ℤ◌, unsigned_abs, FitsSigned, w64, arith, inl, inr, mul_comm, sym, ap, ◌∙◌, subst}
use Rattle.std.proofs.Math.Nat.{div-add-mod}
use Rattle.std.proofs.lemmas.Nat.{mod_below, div-mul-add}
use Rattle.std.proofs.lemmas.Bool.{cases_lt}
use Rattle.std.proofs.lemmas.Int.{ints}
use Rattle.std.proofs.lemmas.List.Sums.{sum_by_more}
use Rattle.hpf_dist.specs.Around.{IsAround}
use Rattle.hpf_dist.specs.Axis.{Divided, AreBounds, before}
use Rattle.hpf_dist.specs.Owner.{own}
use Rattle.hpf_dist.specs.Spread.{IsPosition, owner_at, spread}
use Rattle.hpf_dist.specs.Sums.{sum_of_first, sums}
use Rattle.hpf_dist.specs.declared.format.Format.TheVariants.{Cyclic, GenBlock}
use Rattle.hpf_dist.proofs.Blocks.{own_in_block, sums_at}
use Rattle.hpf_dist.proofs.Spreads.{position_in, fits_position}
use Rattle.hpf_num.specs.Limits.{integer_limit}

-- ---- blocks of a width
same_block : (w x y : ℕ) → 1 ≤ w → x ≤ y + x % w → y ≤ x + (w - 1 - x % w) → y / w ≡ x / w
same_block w x y some low high =
    let whole : (x / w) * w + x % w ≡ x = omega (arith, div-add-mod x w, mul_comm w (x / w)) in
    let inside : x % w < w = mod_below x w some in
    let is : (x / w) * w + (y - (x / w) * w) ≡ y = omega (arith, whole, inside) in
    let small : y - (x / w) * w < w = omega (arith, whole, inside) in
    ap (λ (n : ℕ). n / w) (sym is) ∙ div-mul-add (x / w) w (y - (x / w) * w) small

pub around_cyclic : (w n x : ℕ) → 1 ≤ w → w ≤ integer_limit → IsAround (Cyclic w) n x (record { below = x % w; above = w - 1 - x % w })
around_cyclic w n x some few =
    let inside : x % w < w = mod_below x w some in
    record {
      low = omega (arith, div-add-mod x w);
      below = omega (arith, inside);
      above = omega (arith, inside);
      same = λ y low high. ap (λ (q : ℕ). q % n) (same_block w x y some low high);
    }

-- ---- the blocks of a list of lengths
-- the block of a position: where it ends, and how long it is
pub record IsBlockOf (items : List ℕ) (x block end size : ℕ) : Type 0 where
  pub within : block < length items
  pub whole : end ≡ sum_of_first items block + size
  pub last : end ≡ sum_of_first items (block + 1)
  pub from : sum_of_first items block ≤ x
  pub to : x < end
  pub small : size < 2 ^ 32

pub block_is : (items ends kept : List ℕ) (x block end size : ℕ) → ends ≡ sums items → kept ≡ items → block < length items → sum_of_first items block ≤ x → x < sum_of_first items (block + 1) → end ≡ get_or ends block end → size ≡ get_or kept block size → size < 2 ^ 32 → IsBlockOf items x block end size
block_is items ends kept x block end size sums_are same within from to end_at size_at small =
    let last : end ≡ sum_of_first items (block + 1) =
    end_at ∙ ap (λ (xs : List ℕ). get_or xs block end) sums_are ∙ sums_at items block end within in
    let here : get_or items block size ≡ size = ap (λ (xs : List ℕ). get_or xs block size) (sym same) ∙ sym size_at in
    record {
      within = within;
      whole = omega (arith, last, here, sum_by_more (λ (n : ℕ). n) items block size within);
      last = last;
      from = from;
      to = omega (arith, last);
      small = small;
    }

pub around_block : (items : List ℕ) (n x block end size : ℕ) → length items ≤ n → IsBlockOf items x block end size → IsAround (GenBlock items) n x (record { below = size - 1 - (end - 1 - x); above = end - 1 - x })
around_block items n x block end size few h =
    let whole = h.whole in
    let from = h.from in
    let to = h.to in
    let last = h.last in
    let within : block < n = omega (arith, h.within) in
    record {
      low = omega arith;
      below = omega (arith, h.small);
      above = omega (arith, h.small);
      same = λ y low high. own_in_block items n y block within (omega arith) (omega arith) ∙ sym (own_in_block items n x block within from (omega arith));
    }

-- ---- steps from a position
moved_up : (low t : ℤ) (p : ℕ) → low ≤ℤ t → before low (t +ℤ pos p) ≡ before low t + p
moved_up low t p h = omega (arith, ints)

moved_down : (low t : ℤ) (p : ℕ) → low ≤ℤ t → p ≤ before low t → before low (t +ℤ neg_ℤ (pos p)) + p ≡ before low t
moved_down low t p h few = omega (arith, ints)

pub alike_up : (axis : Divided) (t step : ℤ) (j x below above : ℕ) → axis.low ≤ℤ t → x ≡ before axis.low t → pos 0 ≤ℤ step → j * unsigned_abs step ≤ above → IsAround axis.format axis.procs x (record { below = below; above = above }) → owner_at axis (t +ℤ (pos j *ℤ step)) ≡ owner_at axis t
alike_up axis t (pos s) j x below above low is up within h =
    let moved = moved_up axis.low t (j * s) low in
    ap (λ (y : ℕ). own axis.format axis.procs y) moved
    ∙ ap (λ (z : ℕ). own axis.format axis.procs (z + j * s)) (sym is)
    ∙ h.same (x + j * s) (omega arith) (omega (arith, within))
    ∙ ap (λ (y : ℕ). own axis.format axis.procs y) is
alike_up axis t (negsuc s) j x below above low is up within h = absurd (omega (arith, ints))

pub alike_down : (axis : Divided) (t step : ℤ) (j x below above : ℕ) → axis.low ≤ℤ t → x ≡ before axis.low t → step <ℤ pos 0 → j * unsigned_abs step ≤ below → IsAround axis.format axis.procs x (record { below = below; above = above }) → owner_at axis (t +ℤ (pos j *ℤ step)) ≡ owner_at axis t
alike_down axis t (pos s) j x below above low is down within h = absurd (omega (arith, ints))
alike_down axis t (negsuc s) j x below above low is down within h =
    let few : j * suc s ≤ before axis.low t = omega (arith, within, h.low, is) in
    let moved = moved_down axis.low t (j * suc s) low few in
    h.same (before axis.low (t +ℤ neg_ℤ (pos (j * suc s)))) (omega (arith, within, moved, is)) (omega (arith, moved, is))
    ∙ ap (λ (y : ℕ). own axis.format axis.procs y) is

-- ---- so many steps at once
next_times : (s : ℤ) (k : ℕ) → pos (k + 1) *ℤ s ≡ (pos k *ℤ s) +ℤ s
next_times s k = omega (arith, ints)

none_times : (s : ℤ) → pos 0 *ℤ s ≡ pos 0
none_times s = omega (arith, ints)

pub times : (s : ℤ) (k a : ℕ) → pos (k + a) *ℤ s ≡ (pos k *ℤ s) +ℤ (pos a *ℤ s)
times s k zero =
    let same : k + zero ≡ k = omega arith in
    ap (λ (n : ℕ). pos n *ℤ s) same ∙ omega (arith, ints, none_times s)
times s k (suc a) =
    let same : k + suc a ≡ (k + a) + 1 = omega arith in
    let more : suc a ≡ a + 1 = omega arith in
    ap (λ (n : ℕ). pos n *ℤ s) same ∙ omega (arith, ints, next_times s (k + a), times s k a, ap (λ (n : ℕ). pos n *ℤ s) more, next_times s a)

position_sum : (first t m a sum : ℤ) → t ≡ first +ℤ m → sum ≡ m +ℤ a → t +ℤ a ≡ first +ℤ sum
position_sum first t m a sum e f = omega (arith, ints)

pub position_on : (first step t : ℤ) (k a : ℕ) → t ≡ first +ℤ (pos k *ℤ step) → t +ℤ (pos a *ℤ step) ≡ first +ℤ (pos (k + a) *ℤ step)
position_on first step t k a e = position_sum first t (pos k *ℤ step) (pos a *ℤ step) (pos (k + a) *ℤ step) e (times step k a)

between : (axis : Divided) (t p : ℤ) → AreBounds axis.low axis.high → IsPosition axis t → IsPosition axis (t +ℤ p) → FitsSigned w64 p
between axis t p bounds h i = omega (arith, ints)

-- the position so many steps on, as the code computes it
pub record IsOn (axis : Divided) (first step t : ℤ) (k a : ℕ) : Type 0 where
  pub product : FitsSigned w64 (pos a *ℤ step)
  pub fits : FitsSigned w64 (t +ℤ (pos a *ℤ step))
  pub is : t +ℤ (pos a *ℤ step) ≡ first +ℤ (pos (k + a) *ℤ step)

pub goes_on : (axis : Divided) (first step t : ℤ) (count k a : ℕ) → AreBounds axis.low axis.high → All (IsPosition axis) (spread first step count) → k + a < count → t ≡ first +ℤ (pos k *ℤ step) → IsOn axis first step t k a
goes_on axis first step t count k a bounds all within e =
    let is = position_on first step t k a e in
    let here = subst (IsPosition axis) (sym e) (position_in axis first step count k all (omega arith)) in
    let there = subst (IsPosition axis) (sym is) (position_in axis first step count (k + a) all within) in
    record { product = between axis t (pos a *ℤ step) bounds here there; fits = fits_position axis _ bounds there; is = is }

-- those that are alike have no other owner
pub none_alike : (axis : Divided) (c : ℕ) (first step t : ℤ) (k a : ℕ) → t ≡ first +ℤ (pos k *ℤ step) → (owner_at axis t == c) ≡ false → ((i : ℕ) → i < a → owner_at axis (t +ℤ (pos i *ℤ step)) ≡ owner_at axis t) → ((j : ℕ) → j < k → (owner_at axis (first +ℤ (pos j *ℤ step)) == c) ≡ false) → (j : ℕ) → j < k + a → (owner_at axis (first +ℤ (pos j *ℤ step)) == c) ≡ false
none_alike axis c first step t k a e other same earlier j below =
    elim (cases_lt j k) [
      | inl less ↦ earlier j less
      | inr more ↦
          let i = j - k in
          let whole : k + i ≡ j = omega arith in
          let there : t +ℤ (pos i *ℤ step) ≡ first +ℤ (pos j *ℤ step) = position_on first step t k i e ∙ ap (λ (n : ℕ). first +ℤ (pos n *ℤ step)) whole in
          ap (λ (u : ℤ). owner_at axis u == c) (sym there) ∙ ap (λ (o : ℕ). o == c) (same i (omega arith)) ∙ other
    ]
