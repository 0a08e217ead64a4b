-- Every number that is computed in moving an image stays within the range of its type.
use Rattle.std.proofs.Common.{◌≡◌, ℕ, ◌*◌, ◌^◌, ◌-◌, ◌<◌, ◌≤◌, ℤ, pos, ◌+ℤ◌, ◌*ℤ◌, ◌-ℤ◌, ◌≤ℤ◌, ◌<ℤ◌, List, get_or, unsigned_abs, w32, w64, to_z, of_z, to_z-of_z, arith, sym, ◌∙◌, subst, refl}
use Rattle.std.proofs.lemmas.Int.{ints, unsigned_abs-mul, fits_signed_from_abs}
use Rattle.std.proofs.lemmas.Nat.{mul-le}
use Rattle.std.proofs.lemmas.List.{get_or_default}
use lib.IntN.{*ℤ-one}
use Rattle.hpf_own.specs.declared.image.Image.{Image}
use Rattle.hpf_own.specs.declared.image.Image.TheVariants.{Along, Fixed, Spread}
use Rattle.hpf_map.specs.declared.name.Span.{Span}
use Rattle.hpf_map.specs.Alignments.{no_span}
use Rattle.hpf_map.specs.Composed.{no_image, IsIn, Stays, CanMove, CanCompose, moved, composed, near}
use Rattle.hpf_map.proofs.ComposedLemmas.{times_more, along_moved}
use Rattle.std.specs.Prelude.{Contains}
use Rattle.std.proofs.lemmas.List.FromFn.{get_or-map-range_with_len, length-map-range_with_len}
use Rattle.hpf_dist.specs.Spread.{spread}

near_abs : (u : ℤ) → IsIn near u → unsigned_abs u ≤ 2 ^ 31 - 1
near_abs u h = omega (arith, ints, h.least, h.greatest)

product_abs : (a x : ℤ) (m n : ℕ) → unsigned_abs a ≤ m → unsigned_abs x ≤ n → unsigned_abs (a *ℤ x) ≤ m * n
product_abs a x m n h k = rw (unsigned_abs-mul a x) (mul-le (unsigned_abs a) (unsigned_abs x) m n h k)

next : (c x e : ℤ) → c *ℤ (x +ℤ pos 1) +ℤ e ≡ (c *ℤ x +ℤ e) +ℤ c
next c x e = rw (times_more c x (pos 1)) (omega (arith, ints, *ℤ-one c))

-- two positions lie no further apart
apart : (u c : ℤ) → IsIn near u → IsIn near (u +ℤ c) → unsigned_abs c ≤ 2 ^ 32 - 2
apart u c h k = omega (arith, ints, h.least, h.greatest, k.least, k.greatest)

pub step_abs : (c x e : ℤ) → IsIn near (c *ℤ x +ℤ e) → IsIn near (c *ℤ (x +ℤ pos 1) +ℤ e) → unsigned_abs c ≤ 2 ^ 32 - 2
step_abs c x e h k = apart (c *ℤ x +ℤ e) c h (subst (IsIn near) (next c x e) k)

-- ---- casts

-- a number within the range of 64 bits
pub record IsSmall (x : ℤ) : Type 0 where
  pub small : unsigned_abs x < 2 ^ 63

pub cast : (x y : ℤ) → x ≡ y → IsSmall y → to_z w64 (of_z w64 x) ≡ y
cast x y e h = rw e (to_z-of_z (fits_signed_from_abs w64 y h.small))

pub times_cast : (r x y u v : ℤ) → r ≡ to_z w64 (of_z w64 x) *ℤ to_z w64 (of_z w64 y) → x ≡ u → IsSmall u → y ≡ v → IsSmall v → r ≡ u *ℤ v
times_cast r x y u v is e h f k = rw (cast x u e h, cast y v f k) at is

pub plus_cast : (r x y u v : ℤ) → r ≡ to_z w64 (of_z w64 x) +ℤ to_z w64 (of_z w64 y) → x ≡ u → IsSmall u → y ≡ v → IsSmall v → r ≡ u +ℤ v
plus_cast r x y u v is e h f k = rw (cast x u e h, cast y v f k) at is

pub minus_cast : (r x y u v : ℤ) → r ≡ to_z w64 (of_z w64 x) -ℤ to_z w64 (of_z w64 y) → x ≡ u → IsSmall u → y ≡ v → IsSmall v → r ≡ u -ℤ v
minus_cast r x y u v is e h f k = rw (cast x u e h, cast y v f k) at is

pub times_asked : (x y u v : ℤ) → IsSmall (u *ℤ v) → x ≡ u → IsSmall u → y ≡ v → IsSmall v → unsigned_abs (to_z w64 (of_z w64 x) *ℤ to_z w64 (of_z w64 y)) < 2 ^ 63
times_asked x y u v asked e h f k = rw (cast x u e h, cast y v f k) asked.small

pub plus_asked : (x y u v : ℤ) → IsSmall (u +ℤ v) → x ≡ u → IsSmall u → y ≡ v → IsSmall v → unsigned_abs (to_z w64 (of_z w64 x) +ℤ to_z w64 (of_z w64 y)) < 2 ^ 63
plus_asked x y u v asked e h f k = rw (cast x u e h, cast y v f k) asked.small

pub minus_asked : (x y u v : ℤ) → IsSmall (u -ℤ v) → x ≡ u → IsSmall u → y ≡ v → IsSmall v → unsigned_abs (to_z w64 (of_z w64 x) -ℤ to_z w64 (of_z w64 y)) < 2 ^ 63
minus_asked x y u v asked e h f k = rw (cast x u e h, cast y v f k) asked.small

-- ---- from one position

pub record PlaceFits (a b n : ℤ) : Type 0 where
  pub scale : IsSmall a
  pub shift : IsSmall b
  pub place : IsSmall n
  pub product : IsSmall (a *ℤ n)
  pub sum : IsSmall (a *ℤ n +ℤ b)

shift_abs : (x b : ℤ) → unsigned_abs x ≤ 2 ^ 32 * (2 ^ 31 - 1) → IsIn near (x +ℤ b) → IsSmall b
shift_abs x b h k = record { small = omega (arith, ints, near_abs (x +ℤ b) k) }

place_fits : (a b n : ℤ) → unsigned_abs a ≤ 2 ^ 32 → IsIn near n → IsIn near (a *ℤ n +ℤ b) → PlaceFits a b n
place_fits a b n small from to =
    let product = product_abs a n (2 ^ 32) (2 ^ 31 - 1) small (near_abs n from) in
    record {
      scale = record { small = omega (arith, small) };
      shift = shift_abs (a *ℤ n) b product to;
      place = record { small = omega (arith, near_abs n from) };
      product = record { small = omega (arith, product) };
      sum = record { small = omega (arith, near_abs _ to) };
    }

-- ---- along a dimension

pub record AlongFits (a b c e low : ℤ) : Type 0 where
  pub first : PlaceFits a b (c *ℤ low +ℤ e)
  pub lower : IsSmall low
  pub step : IsSmall c
  pub start : IsSmall e
  pub steps : IsSmall (c *ℤ low)
  pub stride : IsSmall (a *ℤ c)
  pub strides : IsSmall ((a *ℤ c) *ℤ low)
  pub start_there : IsSmall ((a *ℤ (c *ℤ low +ℤ e) +ℤ b) -ℤ ((a *ℤ c) *ℤ low))

minus_abs : (x y : ℤ) → unsigned_abs x ≤ 2 ^ 31 - 1 → unsigned_abs y ≤ (2 ^ 32 - 2) * 2 ^ 31 → IsSmall (x -ℤ y)
minus_abs x y h k = record { small = omega (arith, ints) }

start_abs : (x e : ℤ) → unsigned_abs x ≤ (2 ^ 32 - 2) * 2 ^ 31 → IsIn near (x +ℤ e) → IsSmall e
start_abs x e h k = record { small = omega (arith, ints, near_abs (x +ℤ e) k) }

along_fits : (a b c e low : ℤ) → unsigned_abs a ≤ 2 ^ 32 → unsigned_abs low ≤ 2 ^ 31
    → ((x : ℤ) → low ≤ℤ x → x ≤ℤ (low +ℤ pos 1) → IsIn near (c *ℤ x +ℤ e))
    → ((x : ℤ) → low ≤ℤ x → x ≤ℤ (low +ℤ pos 1) → IsIn near ((a *ℤ c) *ℤ x +ℤ ((a *ℤ (c *ℤ low +ℤ e) +ℤ b) -ℤ ((a *ℤ c) *ℤ low))))
    → AlongFits a b c e low
along_fits a b c e low small near_low from to =
    let here : low ≤ℤ low = omega (arith, ints) in
    let up : low ≤ℤ (low +ℤ pos 1) = omega (arith, ints) in
    let end : (low +ℤ pos 1) ≤ℤ (low +ℤ pos 1) = omega (arith, ints) in
    let first = from low here up in
    let step = step_abs c low e first (from (low +ℤ pos 1) up end) in
    let start = (a *ℤ (c *ℤ low +ℤ e) +ℤ b) -ℤ ((a *ℤ c) *ℤ low) in
    let landed = to low here up in
    let last = subst (IsIn near) (along_moved a b c e low low) landed in
    let stride = step_abs (a *ℤ c) low start landed (to (low +ℤ pos 1) up end) in
    let steps = product_abs c low (2 ^ 32 - 2) (2 ^ 31) step near_low in
    let strides = product_abs (a *ℤ c) low (2 ^ 32 - 2) (2 ^ 31) stride near_low in
    record {
      first = place_fits a b (c *ℤ low +ℤ e) small first last;
      lower = record { small = omega (arith, near_low) };
      step = record { small = omega (arith, step) };
      start = start_abs (c *ℤ low) e steps first;
      steps = record { small = omega (arith, steps) };
      stride = record { small = omega (arith, stride) };
      strides = record { small = omega (arith, strides) };
      start_there = minus_abs (a *ℤ (c *ℤ low +ℤ e) +ℤ b) ((a *ℤ c) *ℤ low) (near_abs _ last) strides;
    }

lower_abs : (low high : ℤ) → near.low ≤ℤ low → high ≤ℤ near.high → low <ℤ high → unsigned_abs low ≤ 2 ^ 31 - 1
lower_abs low high h k l = omega (arith, ints)

pub lower_fits : (low : ℤ) → unsigned_abs low ≤ 2 ^ 31 - 1 → to_z w32 (of_z w32 low) ≡ low
lower_fits low h = to_z-of_z (fits_signed_from_abs w32 low (omega (arith, h)))

pub record MovesAlong (array : List Span) (a b : ℤ) (dim : ℕ) (c e low : ℤ) : Type 0 where
  pub lower : low ≡ (get_or array dim no_span).low
  pub fits : AlongFits a b c e low

pub image_fits : (array : List Span) (a b : ℤ) (image : Image) (dim : ℕ) (c e low : ℤ) → CanMove array a b image → image ≡ Along dim c e
    → low ≡ to_z w32 (of_z w32 (get_or array dim no_span).low) → MovesAlong array a b dim c e low
image_fits array a b image dim c e low can is read =
    let from : Stays array near (Along dim c e) = subst (Stays array near) is can.from in
    let to : Stays array near (moved array a b (Along dim c e)) = subst (λ i. Stays array near (moved array a b i)) is can.to in
    let d = get_or array dim no_span in
    let bounds = can.bounds dim from.0 in
    let several : d.low <ℤ d.high = from.1 in
    let small = lower_abs d.low d.high bounds.least bounds.greatest several in
    let at : low ≡ d.low = read ∙ lower_fits d.low small in
    let within : (x : ℤ) → d.low ≤ℤ x → x ≤ℤ (d.low +ℤ pos 1) → IsIn d x = λ x h k.
    let greatest : x ≤ℤ d.high = omega (arith, ints, k, several) in
    record { least = h; greatest = greatest } in
    let fits = along_fits a b c e d.low can.step (omega (arith, small)) (λ x h k. from.2 x (within x h k)) (λ x h k. to.2 x (within x h k)) in
    record { lower = at; fits = subst (AlongFits a b c e) (sym at) fits }

-- ---- elsewhere

pub fixed_fits : (array : List Span) (a b : ℤ) (image : Image) (n : ℤ) → CanMove array a b image → image ≡ Fixed n → PlaceFits a b n
fixed_fits array a b image n can is =
    place_fits a b n can.step (subst (Stays array near) is can.from) (subst (λ i. Stays array near (moved array a b i)) is can.to)

in_spread : (first step : ℤ) (count k : ℕ) → k < count → Contains (spread first step count) (first +ℤ (pos k *ℤ step))
in_spread first step count k below =
    let at : ℕ → ℤ = λ j. first +ℤ (pos j *ℤ step) in
    (k, omega (arith, length-map-range_with_len at 0 count), get_or-map-range_with_len at 0 count k k (at k) below (omega arith))

first_is : (first step : ℤ) → first +ℤ (pos 0 *ℤ step) ≡ first
first_is first step = omega (arith, ints)

second_is : (first step : ℤ) → first +ℤ (pos 1 *ℤ step) ≡ first +ℤ step
second_is first step = omega (arith, ints)

pub record SpreadFits (a b n m : ℤ) : Type 0 where
  pub first : PlaceFits a b n
  pub step : IsSmall m
  pub stride : IsSmall (a *ℤ m)

stays_at : (first step : ℤ) (count : ℕ) → 2 ≤ count → ((u : ℤ) → Contains (spread first step count) u → IsIn near u) → IsIn near first × IsIn near (first +ℤ step)
stays_at first step count two h = (
  subst (IsIn near) (first_is first step) (h _ (in_spread first step count 0 (omega (arith, two)))),
  subst (IsIn near) (second_is first step) (h _ (in_spread first step count 1 (omega (arith, two)))),
)

pub spread_fits : (array : List Span) (a b : ℤ) (image : Image) (first step : ℤ) (count : ℕ) → CanMove array a b image → image ≡ Spread first step count → SpreadFits a b first step
spread_fits array a b image first step count can is =
    let from : Stays array near (Spread first step count) = subst (Stays array near) is can.from in
    let to : Stays array near (moved array a b (Spread first step count)) = subst (λ i. Stays array near (moved array a b i)) is can.to in
    let here = stays_at first step count from.0 from.1 in
    let there = stays_at (a *ℤ first +ℤ b) (a *ℤ step) count to.0 to.1 in
    record {
      first = place_fits a b first can.step here.0 there.0;
      step = record { small = omega (arith, apart first step here.0 here.1) };
      stride = record { small = omega (arith, apart (a *ℤ first +ℤ b) (a *ℤ step) there.0 there.1) };
    }

-- ---- the numbers that move

numbers_fit : (array : List Span) (a b : ℤ) (image : Image) → CanMove array a b image → IsSmall a × IsSmall b
numbers_fit array a b (Along dim c e) can =
    let m = image_fits array a b (Along dim c e) dim c e (to_z w32 (of_z w32 (get_or array dim no_span).low)) can refl refl in
    (m.fits.first.scale, m.fits.first.shift)
numbers_fit array a b (Fixed n) can = let f = fixed_fits array a b (Fixed n) n can refl in (f.scale, f.shift)
numbers_fit array a b (Spread first step count) can =
    let f = spread_fits array a b (Spread first step count) first step count can refl in (f.first.scale, f.first.shift)

pub composed_along : (array : List Span) (first : List Image) (second : Image) (dim : ℕ) (a b : ℤ) (none r : Image) → CanCompose array first second → second ≡ Along dim a b
    → r ≡ moved array (to_z w64 (of_z w64 a)) (to_z w64 (of_z w64 b)) (get_or first dim none) → r ≡ composed array first second
composed_along array first second dim a b none r can is made =
    let along : CanCompose array first (Along dim a b) = subst (CanCompose array first) is can in
    let fit = numbers_fit array a b (get_or first dim no_image) along.1 in
    let place : get_or first dim none ≡ get_or first dim no_image = get_or_default first dim none no_image along.0 in
    made ∙ rw (is, cast a a refl fit.0, cast b b refl fit.1, place) refl

pub composed_asked : (array : List Span) (first : List Image) (second : Image) (dim : ℕ) (a b : ℤ) (none : Image) → CanCompose array first second → second ≡ Along dim a b
    → CanMove array (to_z w64 (of_z w64 a)) (to_z w64 (of_z w64 b)) (get_or first dim none)
composed_asked array first second dim a b none can is =
    let along : CanCompose array first (Along dim a b) = subst (CanCompose array first) is can in
    let fit = numbers_fit array a b (get_or first dim no_image) along.1 in
    let place : get_or first dim none ≡ get_or first dim no_image = get_or_default first dim none no_image along.0 in
    rw (cast a a refl fit.0, cast b b refl fit.1, place) along.1

-- ---- the one element of a dimension

pub only_is : (a b low x : ℤ) → unsigned_abs a ≤ 2 ^ 31 - 1 → unsigned_abs b ≤ 2 ^ 62 → unsigned_abs low ≤ 2 ^ 31 - 1 → x ≡ low
    → to_z w64 (of_z w64 (to_z w64 (of_z w64 (to_z w64 (of_z w64 a) *ℤ to_z w64 (of_z w64 x))) +ℤ to_z w64 (of_z w64 b))) ≡ a *ℤ low +ℤ b
only_is a b low x ha hb hl is =
    let product = product_abs a low (2 ^ 31 - 1) (2 ^ 31 - 1) ha hl in
    let small_a : IsSmall a = record { small = omega (arith, ha) } in
    let small_b : IsSmall b = record { small = omega (arith, hb) } in
    let small_low : IsSmall low = record { small = omega (arith, hl) } in
    let small_product : IsSmall (a *ℤ low) = record { small = omega (arith, product) } in
    let small_sum : IsSmall (a *ℤ low +ℤ b) = record { small = omega (arith, ints, product, hb) } in
    let t = times_cast _ a x a low refl refl small_a is small_low in
    let s = plus_cast _ _ b (a *ℤ low) b refl t small_product refl small_b in
    cast _ _ s small_sum

pub near_lower : (low high : ℤ) → near.low ≤ℤ low → low ≤ℤ high → high ≤ℤ near.high → unsigned_abs low ≤ 2 ^ 31 - 1
near_lower low high h k l = omega (arith, ints)

pub near_upper : (low high : ℤ) → near.low ≤ℤ low → low ≤ℤ high → high ≤ℤ near.high → unsigned_abs high ≤ 2 ^ 31 - 1
near_upper low high h k l = omega (arith, ints)

pub only_small : (a b low : ℤ) → unsigned_abs a ≤ 2 ^ 31 - 1 → unsigned_abs b ≤ 2 ^ 62 → unsigned_abs low ≤ 2 ^ 31 - 1 → IsSmall (a *ℤ low +ℤ b)
only_small a b low ha hb hl =
    let product = product_abs a low (2 ^ 31 - 1) (2 ^ 31 - 1) ha hl in
    record { small = omega (arith, ints, product, hb) }
