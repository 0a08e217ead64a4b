-- Indices of an array.
use Rattle.std.proofs.Common.{◌≡◌, ℕ, zero, suc, ◌<◌, ◌≤◌, List, [], ◌∷◌, length, get_or, All, ℤ, pos, ◌≤ℤ◌, unsigned_abs, neg_ℤ, arith, sym, ap, subst, refl}
use Rattle.std.proofs.lemmas.Int.{ints}
use Rattle.hpf_num.specs.declared.run.Run.{Run}
use Rattle.hpf_num.specs.Run.{LiesWithin}
use Rattle.hpf_own.specs.declared.image.BaseDim.{BaseDim}
use Rattle.hpf_own.specs.KeptLists.{no_run as no_bound}
use Rattle.hpf_own.specs.Space.{LiesIn}
use Rattle.hpf_own.specs.Mapping.{PlainMapping, IsMapping, AreInLimits, HasPositions, FollowsBelow}
use Rattle.hpf_num.specs.Limits.{integer_limit}

pub LiesIn-length : (bounds : List Run) (index : List ℤ) → LiesIn bounds index → length index ≡ length bounds
LiesIn-length [] [] h = refl
LiesIn-length [] (i ∷ index) h = absurd h
LiesIn-length (run ∷ bounds) [] h = absurd h
LiesIn-length (run ∷ bounds) (i ∷ index) h = ap suc (LiesIn-length bounds index h.1)

pub LiesIn-at : (bounds : List Run) (index : List ℤ) (k : ℕ) (r : Run) (d : ℤ) → LiesIn bounds index → k < length bounds → LiesWithin (get_or bounds k r) (get_or index k d)
LiesIn-at [] index k r d h below = absurd (omega arith)
LiesIn-at (run ∷ bounds) [] k r d h below = absurd h
LiesIn-at (run ∷ bounds) (i ∷ index) zero r d h below = h.0
LiesIn-at (run ∷ bounds) (i ∷ index) (suc k) r d h below = LiesIn-at bounds index k r d h.1 (omega arith)

small_between : (low high i : ℤ) → neg_ℤ (pos integer_limit) ≤ℤ low → high ≤ℤ pos integer_limit → low ≤ℤ i → i ≤ℤ high → unsigned_abs i ≤ integer_limit
small_between low high i a b c d = omega (arith, ints)

pub subscripts_small : (bounds : List Run) (index : List ℤ) → AreInLimits bounds → LiesIn bounds index → All (λ i. unsigned_abs i ≤ integer_limit) index
subscripts_small bounds index limits h =
    λ k d below.
    let within : k < length bounds = omega (arith, LiesIn-length bounds index h) in
    let at = LiesIn-at bounds index k no_bound d h within in
    small_between _ _ _ (limits.least k no_bound within) (limits.greatest k no_bound within) at.least at.greatest

-- each dimension of the base has positions for each index
pub has_positions : (m : PlainMapping) (index : List ℤ) (k : ℕ) (d : BaseDim) → IsMapping m → LiesIn m.bounds index → k < length m.dims → HasPositions (get_or m.dims k d) index
has_positions m index k d is h below =
    let same : length m.bounds ≡ length index = sym (LiesIn-length m.bounds index h) in
    record {
      followed = subst (λ (n : ℕ). FollowsBelow n (get_or m.dims k d).image) same (is.dims.followed k d below);
      coefficients = is.dims.coefficients k d below;
      subscripts = subscripts_small m.bounds index is.limits h;
      within = is.dims.within k d below index h;
    }
