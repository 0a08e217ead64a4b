-- Which coordinates send.
use Rattle.std.proofs.Common.{◌≡◌, ◌==◌, ℕ, zero, suc, ◌<◌, ◌≤◌, Bool, true, List, length, get_or, All, ℤ, pos, ◌+ℤ◌, ◌*ℤ◌, ◌≤ℤ◌, unsigned_abs, neg_ℤ, arith, sym, ap, ◌∙◌, subst, refl, inl, inr, eq-eqb}
use Rattle.std.specs.List.{list_any}
use Rattle.std.proofs.Math.IntN.{*ℤ_comm, suc_ℤ-*ℤ, +ℤ_one, suc_ℤ}
use Rattle.std.proofs.lemmas.Int.{ints}
use Rattle.std.proofs.lemmas.Bool.{cases_eq, cases_order, eqb-true, false≢true}
use Rattle.std.proofs.lemmas.List.Folds.{Any-from_list_any, list_any_at}
use Rattle.std.proofs.lemmas.List.FromFn.{get_or-map-range_with_len, length-map-range_with_len}
use Rattle.hpf_num.specs.declared.run.Run.{Run}
use Rattle.hpf_num.specs.Run.{extent, LiesWithin}
use Rattle.hpf_dist.specs.Axis.{Divided}
use Rattle.hpf_dist.specs.Spread.{IsPosition, owner_at, spread}
use Rattle.hpf_own.specs.declared.image.Image.TheVariants.{Along}
use Rattle.hpf_own.specs.KeptLists.{no_run as no_bound}
use Rattle.hpf_own.specs.Space.{LiesIn}
use Rattle.hpf_own.specs.Lists.{IsBounds}
use Rattle.hpf_own.specs.Image.{subscript}
use Rattle.hpf_own.specs.Mapping.{CanLead}
use Rattle.hpf_own.specs.Owners.{Leads, IsLeast}
use Rattle.hpf_own.proofs.Order.{index_with, extent_is, integers_has}
use Rattle.hpf_own.proofs.Linear.{IsLinear, linear}
use Rattle.hpf_num.specs.Limits.{integer_limit}

pub lies_low : (run : Run) → run.low ≤ℤ run.high → LiesWithin run run.low
lies_low run h = record { least = omega (arith, ints); greatest = h }

-- an index with this subscript in one dimension
pub index_at : (bounds : List Run) (d : ℕ) (x : ℤ) → IsBounds bounds → d < length bounds → LiesWithin (get_or bounds d no_bound) x → (index : List ℤ) × LiesIn bounds index × (subscript index d ≡ x)
index_at bounds d x are below h =
    let P : ℕ → ℤ → Type 0 = λ j y. j ≡ d → y ≡ x in
    let found = index_with bounds P (λ j within.
    elim (cases_eq j d) [
      | inl same ↦ (x, subst (λ (i : ℕ). LiesWithin (get_or bounds i no_bound) x) (sym same) h, λ e. refl)
      | inr other ↦ ((get_or bounds j no_bound).low, lies_low (get_or bounds j no_bound) (are.ordered j no_bound within), λ e. absurd (other e))
    ]) in
    (found.0, found.1, found.2 d below refl)

-- the positions along a dimension stand evenly apart
one_further : (a x : ℤ) → a *ℤ (x +ℤ pos 1) ≡ a *ℤ x +ℤ a
one_further a x =
    ap (λ (y : ℤ). a *ℤ y) (+ℤ_one x) ∙ *ℤ_comm a (suc_ℤ x) ∙ suc_ℤ-*ℤ x a ∙ ap (λ (y : ℤ). y +ℤ a) (*ℤ_comm x a)

times_more : (a low : ℤ) (k : ℕ) → a *ℤ (low +ℤ pos k) ≡ a *ℤ low +ℤ (pos k *ℤ a)
times_more a low zero =
    ap (λ (y : ℤ). a *ℤ y) (let z : low +ℤ pos 0 ≡ low = omega (arith, ints) in z) ∙ omega (arith, ints)
times_more a low (suc k) =
    let next : low +ℤ pos (suc k) ≡ (low +ℤ pos k) +ℤ pos 1 = omega (arith, ints) in
    let step : pos (suc k) *ℤ a ≡ (pos k *ℤ a) +ℤ a = suc_ℤ-*ℤ (pos k) a in
    ap (λ (y : ℤ). a *ℤ y) next ∙ one_further a (low +ℤ pos k) ∙ ap (λ (y : ℤ). y +ℤ a) (times_more a low k) ∙ omega (arith, ints)

along_at : (a b low : ℤ) (k : ℕ) → (a *ℤ low +ℤ b) +ℤ (pos k *ℤ a) ≡ a *ℤ (low +ℤ pos k) +ℤ b
along_at a b low k = let m = times_more a low k in omega (arith, ints)

pub line_in : (axis : Divided) (bounds : List Run) (dim : ℕ) (a b : ℤ) → CanLead (Along dim a b) axis bounds → All (IsPosition axis) (spread (a *ℤ (get_or bounds dim no_bound).low +ℤ b) a (extent (get_or bounds dim no_bound)))
line_in axis bounds dim a b h =
    let run = get_or bounds dim no_bound in
    let at : ℕ → ℤ = λ k. (a *ℤ run.low +ℤ b) +ℤ (pos k *ℤ a) in
    λ k d below.
    let within : k < extent run = omega (arith, length-map-range_with_len at 0 (extent run)) in
    let found = index_at bounds dim (run.low +ℤ pos k) h.ordered h.followed (extent_is run k within) in
    let position : IsPosition axis (a *ℤ subscript found.0 dim +ℤ b) = h.within found.0 found.1 0 d (omega arith) in
    let here : IsPosition axis (at k) = subst (IsPosition axis) (ap (λ (x : ℤ). a *ℤ x +ℤ b) found.2 ∙ sym (along_at a b run.low k)) position in
    subst (IsPosition axis) (sym (get_or-map-range_with_len at 0 (extent run) k k d within (omega arith))) here

-- one of them is owned where some element lies there
pub line_leads : (axis : Divided) (bounds : List Run) (dim : ℕ) (a b : ℤ) (c : ℕ) → list_any (λ u. owner_at axis u == c) (spread (a *ℤ (get_or bounds dim no_bound).low +ℤ b) a (extent (get_or bounds dim no_bound))) ≡ true → Leads (Along dim a b) axis bounds c
line_leads axis bounds dim a b c h =
    let run = get_or bounds dim no_bound in
    let at : ℕ → ℤ = λ k. (a *ℤ run.low +ℤ b) +ℤ (pos k *ℤ a) in
    let found = Any-from_list_any (λ u. owner_at axis u == c) (spread (a *ℤ run.low +ℤ b) a (extent run)) h in
    let k = found.0 in
    let within : k < extent run = omega (arith, found.2, length-map-range_with_len at 0 (extent run)) in
    let is : at k ≡ found.1 = sym (get_or-map-range_with_len at 0 (extent run) k k found.1 within (omega arith)) ∙ found.3 in
    (run.low +ℤ pos k, extent_is run k within, ap (owner_at axis) (sym (along_at a b run.low k) ∙ is) ∙ eqb-true _ _ found.4)

pub leads_line : (axis : Divided) (bounds : List Run) (dim : ℕ) (a b : ℤ) (c : ℕ) → Leads (Along dim a b) axis bounds c → list_any (λ u. owner_at axis u == c) (spread (a *ℤ (get_or bounds dim no_bound).low +ℤ b) a (extent (get_or bounds dim no_bound))) ≡ true
leads_line axis bounds dim a b c h =
    let run = get_or bounds dim no_bound in
    let at : ℕ → ℤ = λ k. (a *ℤ run.low +ℤ b) +ℤ (pos k *ℤ a) in
    let place = integers_has run h.0 h.1 in
    let step : ℕ → ℤ = λ j. run.low +ℤ pos j in
    let within : place.0 < extent run = omega (arith, place.1, length-map-range_with_len step 0 (extent run)) in
    let x : step place.0 ≡ h.0 = sym (get_or-map-range_with_len step 0 (extent run) place.0 place.0 h.0 within (omega arith)) ∙ place.2 in
    let is : get_or (spread (a *ℤ run.low +ℤ b) a (extent run)) place.0 h.0 ≡ a *ℤ h.0 +ℤ b =
    get_or-map-range_with_len at 0 (extent run) place.0 place.0 h.0 within (omega arith) ∙ along_at a b run.low place.0 ∙ ap (λ (y : ℤ). a *ℤ y +ℤ b) x in
    list_any_at (λ u. owner_at axis u == c) (spread (a *ℤ run.low +ℤ b) a (extent run)) place.0 h.0 (omega (arith, within, length-map-range_with_len at 0 (extent run)))
    (eq-eqb _ _ (ap (owner_at axis) is ∙ h.2))

small_low : (low high : ℤ) → neg_ℤ (pos integer_limit) ≤ℤ low → low ≤ℤ high → high ≤ℤ pos integer_limit → unsigned_abs low ≤ integer_limit
small_low low high a b c = omega (arith, ints)

-- the first of them is within the range of its type
pub first_linear : (axis : Divided) (bounds : List Run) (dim : ℕ) (a b : ℤ) → CanLead (Along dim a b) axis bounds → IsLinear a (get_or bounds dim no_bound).low b
first_linear axis bounds dim a b h =
    let run = get_or bounds dim no_bound in
    linear a run.low b h.coefficients.0 (small_low run.low run.high (h.limits.least dim no_bound h.followed) (h.ordered.ordered dim no_bound h.followed) (h.limits.greatest dim no_bound h.followed)) h.coefficients.1

-- some index
pub any_index : (bounds : List Run) → IsBounds bounds → (index : List ℤ) × LiesIn bounds index
any_index bounds are =
    let found = index_with bounds (λ j x. Unit {0}) (λ j within. ((get_or bounds j no_bound).low, lies_low (get_or bounds j no_bound) (are.ordered j no_bound within), tt)) in
    (found.0, found.1)

-- there is one least number that passes a test
pub same_least : (f : ℕ → Bool) (a b : ℕ) → IsLeast f a → IsLeast f b → a ≡ b
same_least f a b h k =
    elim (cases_order a b) [
      | inl same ↦ same
      | inr other ↦
          elim other [
            | inl less ↦ absurd (false≢true (sym (k.least a less) ∙ h.passes))
            | inr more ↦ absurd (false≢true (sym (h.least b more) ∙ k.passes))
          ]
    ]
