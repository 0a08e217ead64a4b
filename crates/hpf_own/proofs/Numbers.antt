-- Numbers of processors, and owners that there are.
use Rattle.std.proofs.Common.{◌≡◌, ◌==◌, ℕ, zero, suc, ◌+◌, ◌*◌, ◌/◌, ◌%◌, ◌<◌, Bool, true, List, [], ◌∷◌, length, get_or, ℤ, pos, arith, sym, ap, ◌∙◌, subst, refl, eq-eqb}
use Rattle.std.specs.List.{list_any}
use Rattle.std.proofs.lemmas.List.Folds.{list_any_at}
use Rattle.std.proofs.Math.Nat.{div-add-mod, add-mul-mod_self_left, add-mul-div_left}
use Rattle.std.proofs.lemmas.Nat.{mod_below}
use Rattle.std.proofs.lemmas.Bool.{eqb-true, false≢true}
use Rattle.hpf_dist.specs.Spread.{owner_at, IsPosition}
use Rattle.hpf_own.specs.declared.image.Image.{Image}
use Rattle.hpf_own.specs.declared.image.Image.TheVariants.{Along, Fixed, Spread}
use Rattle.hpf_own.specs.declared.image.Cut.{Cut}
use Rattle.hpf_own.specs.declared.image.Cut.TheVariants.{Whole, Over}
use Rattle.hpf_own.specs.Space.{product, LiesIn, AreCoordinates}
use Rattle.hpf_own.specs.Image.{positions}
use Rattle.hpf_own.specs.Mapping.{PlainMapping, IsMapping, HasOwners, HasSome, HasSizeOf, StayIn, divides}
use Rattle.hpf_own.specs.Owners.{coordinates, owns, holds, holds_at}
use Rattle.hpf_own.proofs.Digits.{digits, coordinates-digits, rest_below, passes_some, no_quotient, one_below}
use Rattle.hpf_own.proofs.Each.{no_dim, owns-passes}
use Rattle.hpf_own.proofs.Sends.{divider}
use native.Mathlib.Nat.{mod-eq_of_lt}

digits_below : (sizes : List ℕ) (p : ℕ) → p < product sizes → AreCoordinates sizes (digits sizes p)
digits_below [] p h = tt
digits_below (n ∷ sizes) p h =
    let r = rest_below n p (product sizes) h in
    (mod_below p n r.0, digits_below sizes (p / n) r.1)

pub coordinates_below : (sizes : List ℕ) (p : ℕ) → p < product sizes → AreCoordinates sizes (coordinates sizes p)
coordinates_below sizes p h = subst (AreCoordinates sizes) (sym (coordinates-digits sizes p h)) (digits_below sizes p h)

digits_once : (sizes : List ℕ) (p q : ℕ) → p < product sizes → q < product sizes → digits sizes p ≡ digits sizes q → p ≡ q
digits_once [] p q h k same = omega arith
digits_once (n ∷ sizes) p q h k same =
    let first : p % n ≡ q % n = cc in
    let others : digits sizes (p / n) ≡ digits sizes (q / n) = cc in
    let high = digits_once sizes (p / n) (q / n) (rest_below n p (product sizes) h).1 (rest_below n q (product sizes) k).1 others in
    omega (arith, div-add-mod p n, div-add-mod q n, ap (λ (x : ℕ). n * x) high)

pub one_number : (sizes : List ℕ) (p q : ℕ) → p < product sizes → q < product sizes → coordinates sizes p ≡ coordinates sizes q → p ≡ q
one_number sizes p q h k same =
    digits_once sizes p q h k (sym (coordinates-digits sizes p h) ∙ same ∙ coordinates-digits sizes q k)

number_of : (sizes at : List ℕ) → AreCoordinates sizes at → (p : ℕ) × (p < product sizes) × (digits sizes p ≡ at)
number_of [] [] h = (0, omega arith, refl)
number_of [] (c ∷ at) h = absurd h
number_of (n ∷ sizes) [] h = absurd h
number_of (n ∷ sizes) (c ∷ at) h =
    let rest = number_of sizes at h.1 in
    let digit : (c + n * rest.0) % n ≡ c = add-mul-mod_self_left c n rest.0 ∙ mod-eq_of_lt h.0 in
    let quotient : (c + n * rest.0) / n ≡ rest.0 = add-mul-div_left c rest.0 (omega (arith, h.0)) ∙ no_quotient n c rest.0 h.0 in
    (c + n * rest.0, one_below n c rest.0 (product sizes) h.0 rest.1, rw (digit, quotient, rest.2) refl)

pub some_number : (sizes at : List ℕ) → AreCoordinates sizes at → (p : ℕ) × (p < product sizes) × (coordinates sizes p ≡ at)
some_number sizes at h =
    let n = number_of sizes at h in
    (n.0, n.1, coordinates-digits sizes n.0 n.1 ∙ n.2)

-- ---- an owner
some_position : (image : Image) (index : List ℤ) → HasSome image → (u : ℤ) × (0 < length (positions image index)) × (get_or (positions image index) 0 u ≡ u)
some_position (Along dim a b) index some = (get_or (positions (Along dim a b) index) 0 (pos 0), omega arith, refl)
some_position (Fixed n) index some = (n, omega arith, refl)
some_position (Spread first step zero) index some = absurd (omega arith)
some_position (Spread first step (suc n)) index some = (get_or (positions (Spread first step (suc n)) index) 0 (pos 0), omega arith, refl)

first_held : (p : ℤ → Bool) (us : List ℤ) (u : ℤ) → 0 < length us → get_or us 0 u ≡ u → p u ≡ true → list_any p us ≡ true
first_held p us u below is h = list_any_at p us 0 u below (ap p is ∙ h)

some_coordinate : (image : Image) (cut : Cut) (index : List ℤ) (sizes : List ℕ) (e : ℕ) → divides e cut ≡ true → HasOwners cut → HasSome image → HasSizeOf sizes cut → StayIn cut (positions image index) → (c : ℕ) × (c < get_or sizes e 0) × (holds_at cut (positions image index) c ≡ true)
some_coordinate image Whole index sizes e over own some size stay = absurd (false≢true over)
some_coordinate image (Over d axis) index sizes e over own some size stay =
    let first = some_position image index some in
    let below = own first.0 (subst (IsPosition axis) (first.2) (stay 0 first.0 first.1)) in
    (owner_at axis first.0, subst (λ (n : ℕ). owner_at axis first.0 < n) (size ∙ ap (λ (i : ℕ). get_or sizes i 0) (eqb-true d e over)) below, first_held (λ u. owner_at axis u == owner_at axis first.0) (positions image index) first.0 first.1 first.2 (eq-eqb _ _ refl))

pub some_owner : (m : PlainMapping) (index : List ℤ) → IsMapping m → LiesIn m.bounds index → (p : ℕ) × (p < product m.procs) × (owns m p index ≡ true)
some_owner m index is lies =
    let k = passes_some m.procs (holds m.dims index) (λ e within.
    let f = divider m e is.dims within in
    let d = get_or m.dims f.place no_dim in
    let c = some_coordinate d.image d.cut index m.procs e f.passes (is.owners f.place no_dim f.below) (is.dims.some f.place no_dim f.below) (is.dims.sizes f.place no_dim f.below) (is.dims.within f.place no_dim f.below index lies) in
    (c.0, c.1, rw f.is c.2)) in
    (k.0, k.1, owns-passes m k.0 index is.dims k.1 ∙ k.2)
