-- A linear image stays within the range of its type.
use Rattle.std.proofs.Common.{◌≡◌, ◌==◌, ℕ, zero, suc, true, false, ◌||◌, List, length, All, subst, eq-eqb, ◌-◌, ◌^◌, ◌<◌, ◌≤◌, ℤ, pos, ◌+ℤ◌, ◌*ℤ◌, FitsSigned, w64, to_z, of_z, to_z-of_z, unsigned_abs, refl, sym, ap, ◌∙◌, arith}
use Rattle.hpf_dist.specs.Axis.{Divided}
use Rattle.hpf_dist.specs.Spread.{IsPosition, owner_at, spread}
use Rattle.hpf_own.specs.declared.image.Image.{Image}
use Rattle.hpf_own.specs.declared.image.Image.TheVariants.{Along}
use Rattle.hpf_own.specs.Image.{positions, subscript}
use Rattle.hpf_own.specs.Mapping.{FollowsBelow, HasSmallCoefficients}
use Rattle.std.proofs.lemmas.Int.{ints, unsigned_abs-mul, fits_signed_from_abs}
use Rattle.std.specs.List.{list_any}
use Rattle.std.proofs.lemmas.Bool.{ne_eqb, or_left, or_from}
use Rattle.hpf_own.specs.Owners.{IsLeast}
use Rattle.std.proofs.lemmas.Nat.{mul-le}
use Rattle.hpf_num.specs.Limits.{integer_limit}

-- what the code computes of `a * x + b`
abbrev pub computed : ℤ → ℤ → ℤ → ℤ
computed a x b = to_z w64 (of_z w64 (to_z w64 (of_z w64 a) *ℤ to_z w64 (of_z w64 x))) +ℤ to_z w64 (of_z w64 b)

pub record IsLinear (a x b : ℤ) : Type 0 where
  pub product : FitsSigned w64 (to_z w64 (of_z w64 a) *ℤ to_z w64 (of_z w64 x))
  pub fits : FitsSigned w64 (computed a x b)
  pub is : computed a x b ≡ a *ℤ x +ℤ b

fits_small : (a : ℤ) (n : ℕ) → unsigned_abs a ≤ n → n < 2 ^ 63 → FitsSigned w64 a
fits_small a n h k = fits_signed_from_abs w64 a (omega arith)

sum_fits : (a b : ℤ) → unsigned_abs a ≤ 2 ^ 62 - 1 → unsigned_abs b ≤ 2 ^ 62 → FitsSigned w64 (a +ℤ b)
sum_fits a b h k = omega (arith, ints)

pub linear : (a x b : ℤ) → unsigned_abs a ≤ integer_limit → unsigned_abs x ≤ integer_limit → unsigned_abs b ≤ 2 ^ 62 → IsLinear a x b
linear a x b ha hx hb =
    let fa : FitsSigned w64 a = fits_small a integer_limit ha (omega arith) in
    let fx : FitsSigned w64 x = fits_small x integer_limit hx (omega arith) in
    let fb : FitsSigned w64 b = fits_small b (2 ^ 62) hb (omega arith) in
    let small : unsigned_abs (a *ℤ x) ≤ 2 ^ 62 - 1 = rw (unsigned_abs-mul a x) (omega (arith, mul-le (unsigned_abs a) (unsigned_abs x) integer_limit integer_limit ha hx)) in
    let fm : FitsSigned w64 (a *ℤ x) = fits_small (a *ℤ x) (2 ^ 62 - 1) small (omega arith) in
    let is : computed a x b ≡ a *ℤ x +ℤ b = rw (to_z-of_z fa, to_z-of_z fx, to_z-of_z fb, to_z-of_z fm) refl in
    record { product = rw (to_z-of_z fa, to_z-of_z fx) fm; fits = rw is (sum_fits (a *ℤ x) b small hb); is = is }

-- what is asked of an image along a dimension of the array
pub asked : (image : Image) (index : List ℤ) (dim : ℕ) (a b : ℤ) → image ≡ Along dim a b → FollowsBelow (length index) image → HasSmallCoefficients image → All (λ i. unsigned_abs i ≤ integer_limit) index → IsLinear a (subscript index dim) b
asked image index dim a b is f k s =
    let below : dim < length index = subst (FollowsBelow (length index)) is f in
    let small : HasSmallCoefficients (Along dim a b) = subst HasSmallCoefficients is k in
    linear a (subscript index dim) b small.0 (s dim (pos 0) below) small.1

-- its position is one of the axis
pub lies : (image : Image) (axis : Divided) (index : List ℤ) (dim : ℕ) (a b : ℤ) → image ≡ Along dim a b → All (IsPosition axis) (positions image index) → IsPosition axis (a *ℤ subscript index dim +ℤ b)
lies image axis index dim a b is h =
    let along : All (IsPosition axis) (positions (Along dim a b) index) = subst (λ (i : Image). All (IsPosition axis) (positions i index)) is h in
    along 0 (pos 0) (omega arith)

-- what the code computes is the position
pub position : (image : Image) (axis : Divided) (index : List ℤ) (dim : ℕ) (a b : ℤ) → image ≡ Along dim a b → FollowsBelow (length index) image → HasSmallCoefficients image → All (λ i. unsigned_abs i ≤ integer_limit) index → to_z w64 (of_z w64 (computed a (subscript index dim) b)) ≡ a *ℤ subscript index dim +ℤ b
position image axis index dim a b is f k s =
    let l = asked image index dim a b is f k s in
    to_z-of_z l.fits ∙ l.is

-- the owner of the one position is the least coordinate that owns it
pub single_least : (axis : Divided) (u : ℤ) (r : ℕ) → r ≡ owner_at axis u → IsLeast (λ c. (owner_at axis u == c) || false) r
single_least axis u r e =
    record {
      passes = or_left _ _ (eq-eqb _ _ (sym e));
      least = λ j below. or_from _ _ (ne_eqb _ _ (λ same. absurd (let k : r ≡ j = e ∙ same in omega arith))) refl;
    }

-- the first of several positions
pub first_in : (axis : Divided) (first step : ℤ) (count : ℕ) → 1 ≤ count → All (IsPosition axis) (spread first step count) → IsPosition axis first
first_in axis first step zero some h = absurd (omega arith)
first_in axis first step (suc n) some h =
    let is : first +ℤ (pos 0 *ℤ step) ≡ first = omega (arith, ints) in
    subst (IsPosition axis) is (h 0 first (omega arith))

pub first_owned : (axis : Divided) (first step : ℤ) (count : ℕ) → 1 ≤ count → list_any (λ u. owner_at axis u == owner_at axis first) (spread first step count) ≡ true
first_owned axis first step zero some = absurd (omega arith)
first_owned axis first step (suc n) some =
    let is : first +ℤ (pos 0 *ℤ step) ≡ first = omega (arith, ints) in
    or_left _ _ (eq-eqb _ _ (ap (owner_at axis) is))
