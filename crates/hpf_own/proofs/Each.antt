-- Owners, one dimension of the arrangement after another.
use Rattle.std.proofs.Common.{◌≡◌, ℕ, zero, suc, ◌<◌, ◌==◌, Bool, true, ◌&&◌, List, [], ◌∷◌, length, map, get_or, ℤ, pos, ◌⊎◌, inl, inr, arith, sym, ap, ◌∙◌, subst, refl, eq-eqb}
use Rattle.std.specs.List.{list_any, list_all}
use Rattle.std.proofs.lemmas.Bool.{false≢true, eqb-true}
use Rattle.hpf_dist.specs.Spread.{owner_at}
use Rattle.hpf_own.specs.declared.image.Image.{Image}
use Rattle.hpf_own.specs.declared.image.Image.TheVariants.{Along, Fixed, Spread}
use Rattle.hpf_own.specs.declared.image.Cut.{Cut}
use Rattle.hpf_own.specs.declared.image.Cut.TheVariants.{Whole, Over}
use Rattle.hpf_own.specs.declared.image.BaseDim.{BaseDim}
use Rattle.hpf_own.specs.Space.{product}
use Rattle.hpf_own.specs.Image.{positions, images}
use Rattle.hpf_own.specs.Mapping.{PlainMapping, AreDims, HasSome, divides, DividedBelow}
use Rattle.hpf_own.specs.Owners.{coordinates, is_owned, is_owned_whole, owns, holds_at, holds}
use Rattle.hpf_own.proofs.Choices.{list_any-same, list_any-map, list_any-flat_map, list_any-and, list_any-and_left}
use Rattle.hpf_own.proofs.Digits.{digits, coordinates-digits, passes, passes_from, passes_at}
use Rattle.hpf_own.proofs.Only.{same_test, find_only, found, all_from, all_at}

-- some position in this dimension of the base is owned at these coordinates
abbrev pub owns_in : List ℕ → List ℤ → BaseDim → Bool
owns_in at index d = list_any (is_owned d.cut at) (positions d.image index)

-- some image is owned where in each dimension some position is
pub owns-each : (dims : List BaseDim) (at : List ℕ) (index : List ℤ) → list_any (is_owned_whole dims at) (images dims index) ≡ list_all (owns_in at index) dims
owns-each [] at index = refl
owns-each (d ∷ dims) at index =
    let us = positions d.image index in
    let rest = images dims index in
    let put : List ℤ → List (List ℤ) = λ chosen. map (λ u. u ∷ chosen) us in
    list_any-flat_map (is_owned_whole (d ∷ dims) at) put rest
    ∙ list_any-same (λ chosen. list_any (is_owned_whole (d ∷ dims) at) (put chosen)) (λ chosen. owns_in at index d && is_owned_whole dims at chosen)
    (λ chosen. list_any-map (is_owned_whole (d ∷ dims) at) (λ u. u ∷ chosen) us ∙ list_any-and (is_owned d.cut at) (is_owned_whole dims at chosen) us) rest
    ∙ list_any-and_left (is_owned_whole dims at) (owns_in at index d) rest
    ∙ ap (λ (b : Bool). owns_in at index d && b) (owns-each dims at index)

-- what stands behind the end of a list
abbrev pub no_dim : BaseDim
no_dim = record { image = Fixed (pos 0); cut = Whole }

-- a dimension that is divided over this one of the arrangement is owned as it is there
holds_over : (cut : Cut) (us : List ℤ) (at : List ℕ) (e : ℕ) → divides e cut ≡ true → list_any (is_owned cut at) us ≡ holds_at cut us (get_or at e 0)
holds_over Whole us at e h = absurd (false≢true h)
holds_over (Over dim axis) us at e h =
    ap (λ (i : ℕ). list_any (λ u. owner_at axis u == get_or at i 0) us) (eqb-true dim e h)

-- a dimension is whole or divided over one of the arrangement
pub cut_cases : (cut : Cut) → (cut ≡ Whole) ⊎ ((e : ℕ) × (divides e cut ≡ true))
cut_cases Whole = inl refl
cut_cases (Over dim axis) = inr (dim, eq-eqb dim dim refl)

pub divided_below : (cut : Cut) (e rank : ℕ) → divides e cut ≡ true → DividedBelow rank cut → e < rank
divided_below Whole e rank h below = absurd (false≢true h)
divided_below (Over dim axis) e rank h below = subst (λ (i : ℕ). i < rank) (eqb-true dim e h) below

-- an element has a position in each dimension
pub position_some : (image : Image) (index : List ℤ) → HasSome image → list_any (λ _. true) (positions image index) ≡ true
position_some (Along dim a b) index h = refl
position_some (Fixed n) index h = refl
position_some (Spread first step zero) index h = absurd (omega arith)
position_some (Spread first step (suc n)) index h = refl

whole_is_owned : (cut : Cut) (us : List ℤ) (at : List ℕ) → cut ≡ Whole → list_any (λ _. true) us ≡ true → list_any (is_owned cut at) us ≡ true
whole_is_owned cut us at e some = rw e some

-- an owner holds a position at its coordinate in each dimension of the arrangement
pub owns_digits : (m : PlainMapping) (p : ℕ) (index : List ℤ) → AreDims m.bounds m.dims m.procs → p < product m.procs → owns m p index ≡ true → (e : ℕ) → e < length m.procs → holds m.dims index e (get_or (digits m.procs p) e 0) ≡ true
owns_digits m p index dims below h e within =
    let at = coordinates m.procs p in
    let f = found (λ (d : BaseDim). divides e d.cut) m.dims no_dim (omega (arith, dims.each_once e within)) in
    let d = get_or m.dims f.place no_dim in
    let each = sym (owns-each m.dims at index) ∙ h in
    let here = all_at (owns_in at index) m.dims f.place no_dim each f.below in
    let over = sym (holds_over d.cut (positions d.image index) at e f.passes) ∙ here in
    let same : at ≡ digits m.procs p = coordinates-digits m.procs p below in
    let moved : holds_at d.cut (positions d.image index) (get_or (digits m.procs p) e 0) ≡ true =
    subst (λ (js : List ℕ). holds_at d.cut (positions d.image index) (get_or js e 0) ≡ true) same over in
    rw f.is moved

-- and who does is an owner
pub owns_from : (m : PlainMapping) (p : ℕ) (index : List ℤ) → AreDims m.bounds m.dims m.procs → p < product m.procs → ((e : ℕ) → e < length m.procs → holds m.dims index e (get_or (digits m.procs p) e 0) ≡ true) → owns m p index ≡ true
owns_from m p index dims below h =
    let at = coordinates m.procs p in
    let same : at ≡ digits m.procs p = coordinates-digits m.procs p below in
    owns-each m.dims at index
    ∙ all_from (owns_in at index) m.dims no_dim
    (λ k inside.
    let d = get_or m.dims k no_dim in
    let us = positions d.image index in
    elim (cut_cases d.cut) [
      | inl whole ↦ whole_is_owned d.cut us at whole (position_some d.image index (dims.some k no_dim inside))
      | inr over ↦
          let e = over.0 in
          let within = divided_below d.cut e (length m.procs) over.1 (dims.divided k no_dim inside) in
          let is = find_only (λ (d : BaseDim). divides e d.cut) m.dims k no_dim (omega (arith, dims.each_once e within)) inside over.1 in
          let held = rw is at (h e within) in
          holds_over d.cut us at e over.1
          ∙ subst (λ (js : List ℕ). holds_at d.cut us (get_or js e 0) ≡ true) (sym same) held
    ])

-- so owning is a test of digits
pub owns-passes : (m : PlainMapping) (p : ℕ) (index : List ℤ) → AreDims m.bounds m.dims m.procs → p < product m.procs → owns m p index ≡ passes m.procs (holds m.dims index) p
owns-passes m p index dims below =
    same_test _ _
    (λ h. passes_from m.procs (holds m.dims index) p (owns_digits m p index dims below h))
    (λ h. owns_from m p index dims below (λ e within. passes_at m.procs (holds m.dims index) p e h within))
