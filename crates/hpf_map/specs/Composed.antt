-- Images of an array in the base of its base.
use Rattle.std.specs.Prelude.{ℕ, ◌^◌, ◌-◌, neg_ℤ, unsigned_abs, ◌≡◌, ◌<◌, ◌≤◌, List, length, map, true, Contains, slice_index_or, ◌↔◌, ℤ, pos, ◌+ℤ◌, ◌*ℤ◌, ◌-ℤ◌, ◌<ℤ◌, ◌≤ℤ◌}
use Rattle.std.specs.List.{AllZip}
use Rattle.hpf_dist.specs.Spread.{spread}
use Rattle.hpf_num.specs.Run.{LiesWithin}
use Rattle.hpf_own.specs.Image.{positions}
use Rattle.hpf_own.specs.Mapping.{follows, FollowsBelow, HasSmallCoefficients, HasSome}
use Rattle.hpf_own.specs.Space.{choices, LiesIn}
use Rattle.hpf_own.specs.declared.image.Image.{Image}
use Rattle.hpf_own.specs.declared.image.Image.TheVariants.{Along, Fixed, Spread}
use Rattle.hpf_map.specs.declared.name.Span.{Span}
use Rattle.hpf_map.specs.Alignments.{no_span}
use Rattle.hpf_map.specs.Spaces.{run_of}

-- what stands behind the end of a list of images
abbrev pub no_image : Image
no_image = Fixed (pos 0)

-- a position of a dimension
abbrev pub IsIn : Span → ℤ → Type 0
IsIn s u = LiesWithin (run_of s) u

-- An image whose positions are those of a dimension of the base. It follows a dimension of the array only where that has
-- several elements, and is spread only over several positions.
abbrev pub Stays : List Span → Span → Image → Type 0
Stays array s (Along dim a b) = let d : Span = slice_index_or array dim no_span in
    (dim < length array) × (d.low <ℤ d.high) × ((x : ℤ) → IsIn d x → IsIn s (a *ℤ x +ℤ b))
Stays array s (Fixed n) = IsIn s n
Stays array s (Spread first step count) = (2 ≤ count) × ((u : ℤ) → Contains (spread first step count) u → IsIn s u)

-- images of an array in a base, one for each dimension of the base; each dimension of the array is followed once at most
pub record AreImages (array base : List Span) (images : List Image) : Type 0 where
  pub size : length images ≡ length base
  pub stay : (e : ℕ) → e < length base → Stays array (slice_index_or base e no_span) (slice_index_or images e no_image)
  pub once : (d e f : ℕ) → e < length images → f < length images
      → follows d (slice_index_or images e no_image) ≡ true → follows d (slice_index_or images f no_image) ≡ true → e ≡ f

-- a position that an element has under these images
abbrev pub LiesUnder : List Image → List ℤ → List ℤ → Type 0
LiesUnder images index position = Contains (choices (map (λ image. positions image index) images)) position

-- Elements lie under images where they lie by going through a base.
abbrev pub GoThrough : List Span → (first second images : List Image) → Type 0
GoThrough array first second images = (index position : List ℤ) → LiesIn (map run_of array) index
    → LiesUnder images index position ↔ ((between : List ℤ) × LiesUnder first index between × LiesUnder second between position)

-- where the positions that an image gives are moved from u to a*u+b
abbrev pub moved : List Span → (a b : ℤ) → Image → Image
moved array a b (Along dim c e) =
    let low : ℤ = (slice_index_or array dim no_span).low in
    Along dim (a *ℤ c) ((a *ℤ (c *ℤ low +ℤ e) +ℤ b) -ℤ ((a *ℤ c) *ℤ low))
moved array a b (Fixed n) = Fixed (a *ℤ n +ℤ b)
moved array a b (Spread first step count) = Spread (a *ℤ first +ℤ b) (a *ℤ step) count

-- the image of an array in a dimension of the base of its base
abbrev pub composed : List Span → List Image → Image → Image
composed array first (Along dim a b) = moved array a b (slice_index_or first dim no_image)
composed array first (Fixed n) = Fixed n
composed array first (Spread start step count) = Spread start step count

-- what is within the limits that this project sets for positions
abbrev pub near : Span
near = record { low = neg_ℤ (pos (2 ^ 31 - 1)); high = pos (2 ^ 31 - 1) }

-- bounds within these limits
pub record IsNear (s : Span) : Type 0 where
  pub least : near.low ≤ℤ s.low
  pub greatest : s.high ≤ℤ near.high

-- an image whose positions may be moved so
pub record CanMove (array : List Span) (a b : ℤ) (image : Image) : Type 0 where
  pub bounds : (d : ℕ) → d < length array → IsNear (slice_index_or array d no_span)
  pub step : unsigned_abs a ≤ 2 ^ 32
  pub from : Stays array near image
  pub to : Stays array near (moved array a b image)

-- an image in the base of a base that may be composed with these in the base
abbrev pub CanCompose : List Span → List Image → Image → Type 0
CanCompose array first (Along dim a b) = (dim < length first) × CanMove array a b (slice_index_or first dim no_image)
CanCompose array first (Fixed n) = Unit {0}
CanCompose array first (Spread start step count) = Unit {0}

-- ---- images as an ALIGN says them

-- bounds in order and within the limits that this project sets
pub record IsSound (s : Span) : Type 0 where
  pub near : IsNear s
  pub order : s.low ≤ℤ s.high

abbrev pub AreSound : List Span → Type 0
AreSound spans = (d : ℕ) → d < length spans → IsSound (slice_index_or spans d no_span)

-- an image that follows a dimension only where that has several elements, and is spread over several positions
abbrev pub HasSeveral : List Span → Image → Type 0
HasSeveral array (Along dim a b) = (dim < length array) × ((slice_index_or array dim no_span).low <ℤ (slice_index_or array dim no_span).high)
HasSeveral array (Fixed n) = Unit {0}
HasSeveral array (Spread first step count) = 2 ≤ count

-- what is asked of an image in a dimension of the base
pub record IsAligned (array : List Span) (s : Span) (image : Image) : Type 0 where
  pub followed : FollowsBelow (length array) image
  pub coefficients : HasSmallCoefficients image
  pub some : HasSome image
  pub inside : (index : List ℤ) (u : ℤ) → LiesIn (map run_of array) index → Contains (positions image index) u → IsIn s u

-- what is asked of images in a base
pub record AreAligned (array base : List Span) (images : List Image) : Type 0 where
  pub size : length images ≡ length base
  pub each : (e : ℕ) → e < length base → IsAligned array (slice_index_or base e no_span) (slice_index_or images e no_image)
  pub once : (d e f : ℕ) → e < length images → f < length images
      → follows d (slice_index_or images e no_image) ≡ true → follows d (slice_index_or images f no_image) ≡ true → e ≡ f

-- an image with the same positions, which follows a dimension of several elements at most
pub record IsPlain (array : List Span) (image plain : Image) : Type 0 where
  pub several : HasSeveral array plain
  pub follows : (d : ℕ) → follows d plain ≡ true → follows d image ≡ true
  pub same : (index : List ℤ) → LiesIn (map run_of array) index → positions plain index ≡ positions image index

-- such images of each of these
abbrev pub ArePlain : List Span → (images plain : List Image) → Type 0
ArePlain array images plain = AllZip (IsPlain array) images plain
