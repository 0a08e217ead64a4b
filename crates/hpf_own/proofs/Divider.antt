-- The dimension of a base that is divided over one of the arrangement.
use Rattle.std.proofs.Common.{◌≡◌, ℕ, ◌<◌, ◌≤◌, true, false, List, length, get_or, Some, None, ℤ, sym, ap, ◌∙◌, subst, arith}
use Rattle.std.specs.List.{find}
use Rattle.std.proofs.lemmas.List.{get_or_default}
use Rattle.hpf_own.specs.declared.image.BaseDim.{BaseDim}
use Rattle.hpf_own.specs.Space.{LiesIn}
use Rattle.hpf_own.specs.Mapping.{PlainMapping, IsMapping, HasPositions, divides}
use Rattle.hpf_own.specs.Image.{positions}
use Rattle.hpf_own.specs.Owners.{holds, holds_at, IsLeast}
use Rattle.hpf_own.proofs.Each.{no_dim}
use Rattle.hpf_own.proofs.Indices.{has_positions}
use Rattle.hpf_own.proofs.Only.{find_first, find_none}

-- a dimension of a mapping has positions
pub asked : (m : PlainMapping) (items : List BaseDim) (index : List ℤ) (k : ℕ) (d : BaseDim) → IsMapping m → LiesIn m.bounds index → items ≡ m.dims → k < length items → d ≡ get_or items k d → HasPositions d index
asked m items index k d is h same below at =
    let inside : k < length m.dims = subst (λ (ds : List BaseDim). k < length ds) same below in
    let place : d ≡ get_or m.dims k d = at ∙ ap (λ (ds : List BaseDim). get_or ds k d) same in
    subst (λ (x : BaseDim). HasPositions x index) (sym place) (has_positions m index k d is h inside)

-- the first one that a loop comes to
pub divider_is : (items dims : List BaseDim) (e k : ℕ) (d : BaseDim) → items ≡ dims → k < length items → d ≡ get_or items k d → ((j : ℕ) → j < k → divides e (get_or items j no_dim).cut ≡ false) → true ≡ divides e d.cut → find (λ d. divides e d.cut) dims ≡ Some d
divider_is items dims e k d same below at before over =
    let place : get_or items k no_dim ≡ d = get_or_default items k no_dim d below ∙ sym at in
    let passes : divides e (get_or items k no_dim).cut ≡ true = ap (λ (x : BaseDim). divides e x.cut) place ∙ sym over in
    let first : find (λ d. divides e d.cut) items ≡ Some (get_or items k no_dim) = find_first (λ (d : BaseDim). divides e d.cut) items k no_dim below before passes in
    ap (λ (ds : List BaseDim). find (λ d. divides e d.cut) ds) (sym same) ∙ first ∙ ap (λ (x : BaseDim). Some x) place

-- a loop that comes to none
pub divider_none : (items dims : List BaseDim) (e k : ℕ) → items ≡ dims → length items ≤ k → ((j : ℕ) → j < k → divides e (get_or items j no_dim).cut ≡ false) → find (λ d. divides e d.cut) dims ≡ None
divider_none items dims e k same end before =
    let none : find (λ d. divides e d.cut) items ≡ None = find_none (λ (d : BaseDim). divides e d.cut) items no_dim (λ j below. before j (omega arith)) in
    ap (λ (ds : List BaseDim). find (λ d. divides e d.cut) ds) (sym same) ∙ none

-- what is least in it is least in the dimension of the arrangement
pub least_found : (dims : List BaseDim) (index : List ℤ) (e : ℕ) (d : BaseDim) (r : ℕ) → find (λ d. divides e d.cut) dims ≡ Some d → IsLeast (holds_at d.cut (positions d.image index)) r → IsLeast (holds dims index e) r
least_found dims index e d r found h = record { passes = rw found h.passes; least = λ j below. rw found (h.least j below) }
