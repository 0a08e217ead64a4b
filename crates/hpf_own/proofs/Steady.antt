-- What is kept of the coordinates at which all elements lie.
use Rattle.std.proofs.Common.{◌≡◌, ◌==◌, ℕ, ◌/◌, ◌%◌, ◌<◌, Bool, true, false, cond, ◌&&◌, IsTrue, List, [], length, get_or, replicate, set as store, All, ℤ, Option, Some, None, arith, refl, sym, ap, ◌∙◌, subst, inl, inr}
use Rattle.std.specs.Prelude.{IfSome}
use Rattle.std.specs.Int.{bit_at}
use Rattle.std.specs.List.{find}
use Rattle.std.proofs.lemmas.Bool.{cases_order, eqb-true, lt-ltb, false≢true}
use Rattle.std.proofs.lemmas.List.{get_or-replicate, get_or-set_same, get_or-set_other, length-set}
use Rattle.std.proofs.lemmas.List.Elements.{All-nil}
use Rattle.hpf_num.specs.declared.run.Run.{Run}
use Rattle.hpf_own.specs.declared.common.Common.{Common}
use Rattle.hpf_own.specs.declared.image.Image.{Image}
use Rattle.hpf_own.specs.declared.image.Image.TheVariants.{Along, Fixed, Spread}
use Rattle.hpf_own.specs.declared.image.Cut.{Cut}
use Rattle.hpf_own.specs.declared.image.Cut.TheVariants.{Whole, Over}
use Rattle.hpf_own.specs.declared.image.BaseDim.{BaseDim}
use Rattle.hpf_own.specs.Limits.{dimension_limit}
use Rattle.hpf_own.specs.Lists.{IsBounds}
use Rattle.hpf_own.specs.Mapping.{PlainMapping, IsMapping, AreDims, HasPositions, StaysWithin, HasSizeOf, divides}
use Rattle.hpf_own.specs.Image.{positions}
use Rattle.hpf_own.specs.Owners.{holds, holds_at, holds_of}
use Rattle.hpf_own.specs.OwnerSet.{IsRepeated}
use Rattle.hpf_own.specs.Common.{is_steady, MayBeSteady, KeepsCoordinates, AreCommonAt, AreCommonOf, AreAllCommon, IsKeptMapping}
use Rattle.hpf_own.proofs.Each.{no_dim}
use Rattle.hpf_own.proofs.Only.{found}
use Rattle.hpf_own.proofs.Leads.{any_index}

steady_positions : (bounds : List Run) (image : Image) (cut : Cut) → IsBounds bounds → StaysWithin bounds image cut → IsTrue (is_steady image) → HasPositions (record { image = image; cut = cut }) []
steady_positions bounds (Along dim a b) cut are within t = absurd (false≢true t)
steady_positions bounds (Fixed n) cut are within t =
    let i = any_index bounds are in
    record { followed = tt; coefficients = tt; subscripts = All-nil _; within = within i.0 i.1 }
steady_positions bounds (Spread first step count) cut are within t =
    let i = any_index bounds are in
    record { followed = tt; coefficients = tt; subscripts = All-nil _; within = within i.0 i.1 }

pub may_be_steady : (bounds : List Run) (dims : List BaseDim) (procs : List ℕ) → IsBounds bounds → AreDims bounds dims procs → All MayBeSteady dims
may_be_steady bounds dims procs are h =
    λ k d below. record { positions = steady_positions bounds (get_or dims k d).image (get_or dims k d).cut are (h.within k d below); some = h.some k d below }

pub common_none : (dims : List BaseDim) → AreAllCommon dims (replicate dimension_limit None)
common_none dims =
    record { size = refl; each = λ e index below. rw (get_or-replicate dimension_limit e (let none : Option Common = None in none) None below) tt }

for_each : (P : List ℤ → Common → Type 0) (o : Option Common) (index : List ℤ) → IfSome o (λ kept. (i : List ℤ) → P i kept) → IfSome o (P index)
for_each P None index h = tt
for_each P (Some kept) index h = h index

pub common_more : (dims : List BaseDim) (all : List (Option Common)) (e : ℕ) (o : Option Common) → e < dimension_limit → AreAllCommon dims all → IfSome o (λ kept. (index : List ℤ) → AreCommonOf index (find (λ d. divides e d.cut) dims) kept) → AreAllCommon dims (store all e o)
common_more dims all e o below so_far h =
    record {
      size = length-set all e o ∙ so_far.size;
      each = λ j index within.
          elim (cases_order j e) [
            | inl same ↦ rw (same, get_or-set_same all e o None (omega (arith, so_far.size))) (for_each (λ i kept. AreCommonOf i (find (λ d. divides e d.cut) dims) kept) o index h)
            | inr other ↦ rw (get_or-set_other all e j o None (λ z. elim other [ inl less ↦ absurd (omega arith) | inr more ↦ absurd (omega arith) ])) (so_far.each j index within)
          ];
    }

at_cut : (cut : Cut) (us : List ℤ) (kept : Common) (procs : List ℕ) (e : ℕ) → divides e cut ≡ true → HasSizeOf procs cut → AreCommonAt us cut kept → KeepsCoordinates (holds_at cut us) (get_or procs e 0) kept
at_cut Whole us kept procs e over size h = absurd h
at_cut (Over dim axis) us kept procs e over size h =
    subst (λ (n : ℕ). KeepsCoordinates (holds_at (Over dim axis) us) n kept) (size ∙ ap (λ (k : ℕ). get_or procs k 0) (eqb-true dim e over)) h

-- what is kept of a dimension of the arrangement
coordinates_are : (m : PlainMapping) (index : List ℤ) (e : ℕ) (kept : Common) → IsMapping m → e < length m.procs → AreCommonOf index (find (λ d. divides e d.cut) m.dims) kept → KeepsCoordinates (holds m.dims index e) (get_or m.procs e 0) kept
coordinates_are m index e kept is below h =
    let f = found (λ (d : BaseDim). divides e d.cut) m.dims no_dim (omega (arith, is.dims.each_once e below)) in
    let d = get_or m.dims f.place no_dim in
    let at : AreCommonAt (positions d.image index) d.cut kept = subst (λ (o : Option BaseDim). AreCommonOf index o kept) f.is h in
    let coordinates = at_cut d.cut (positions d.image index) kept m.procs e f.passes (is.dims.sizes f.place no_dim f.below) at in
    subst (λ (o : Option BaseDim). KeepsCoordinates (λ c. holds_of index c o) (get_or m.procs e 0) kept) (sym f.is) coordinates

-- what is kept of a mapping
pub kept_are : (m : PlainMapping) (all : List (Option Common)) (index : List ℤ) (e : ℕ) (kept : Common) → IsKeptMapping m all → e < length m.procs → get_or all e None ≡ Some kept → KeepsCoordinates (holds m.dims index e) (get_or m.procs e 0) kept
kept_are m all index e kept is below at =
    coordinates_are m index e kept is.mapping below (subst (λ (o : Option Common). IfSome o (AreCommonOf index (find (λ d. divides e d.cut) m.dims))) at (is.same.each e index (omega (arith, is.mapping.procs.short.few))))

one_if : (b : Bool) → (cond (true && b) 1 0 == 1) ≡ b
one_if true = refl
one_if false = refl

pub bit_is : (f : ℕ → Bool) (size set c : ℕ) → c < size → IsRepeated f 1 1 size set → (bit_at set c == 1) ≡ f c
bit_is f size set c below h =
    let whole : c / 1 ≡ c = omega arith in
    let rest : c % 1 ≡ 0 = omega arith in
    let at = h.bits c in
    let bit = rw (whole, rest, lt-ltb c size below) at at in
    ap (λ (n : ℕ). n == 1) bit ∙ one_if (f c)
