-- Who owns the elements of an array, one directive at a time (High Performance Fortran 2.0, Data Mapping, ALIGN and
-- DISTRIBUTE). A name is its place among the declared ones, from 0, and a statement its place in the text, from 0.
use Rattle.std.specs.Prelude.{ℕ, ◌≡◌, ◌<◌, List, [], map, Bool, true, false, ◌==◌, Option, Some, None, option_and_then, option_map, length, slice_get, slice_index_or, Contains, IsTrue, ◌↔◌, ℤ, pos}
use Rattle.std.specs.List.{list_all, range_with_len}
use Rattle.hpf_dist.specs.Axis.{before}
use Rattle.hpf_dist.specs.Owner.{own}
use Rattle.hpf_dist.specs.declared.format.Format.{Format}
use Rattle.hpf_own.specs.Image.{positions}
use Rattle.hpf_own.specs.Mapping.{PlainMapping}
use Rattle.hpf_own.specs.Owners as mapping
use Rattle.hpf_own.specs.Owners.{coordinates}
use Rattle.hpf_own.specs.Space.{choices, product, LiesIn}
use Rattle.hpf_own.specs.declared.image.Image.{Image}
use Rattle.hpf_syntax.specs.Plain.{ItemTree, Align, Distribute}
use Rattle.hpf_map.specs.declared.name.Name.{Name}
use Rattle.hpf_map.specs.declared.name.Span.{Span}
use Rattle.hpf_map.specs.declared.subscript.Subscript.{Subscript}
use Rattle.hpf_map.specs.declared.way.Way.TheVariants.{Distributed, Aligned}
use Rattle.hpf_map.specs.Alignments.{images_between, no_span}
use Rattle.hpf_map.specs.Dealing.{Dealt, dealing, over, target_at, format_at}
use Rattle.hpf_map.specs.Paired.{inner, at_place}
use Rattle.hpf_map.specs.Shadows.{shadow_at}
use Rattle.hpf_map.specs.Shapes.{extent}
use Rattle.hpf_map.specs.Spaces.{run_of, meaning_shape}
use Rattle.hpf_map.specs.Subscripts.{all_subscripts}
use Rattle.hpf_map.specs.Ways.{ways_of, way_at}
use Rattle.hpf_map.specs.Widths.{all_widths}

module _ (names : List Name) (items : List ItemTree) where
  -- the shape of a name, where it is free
  abbrev pub shape_at : ℕ → Option (List Span)
  shape_at n = option_and_then (λ name. meaning_shape name.meaning) (slice_get names n)

  -- what the subscripts of a statement say
  abbrev pub said_by : ℕ → Option (List Subscript)
  said_by k = at_place k (all_subscripts items)

  -- ---- from alignee to base

  abbrev pub images_of : Option ItemTree → Option (List Subscript) → Option (List Span) → Option (List Span) → Option (List Image)
  images_of (Some (Align alignees sources base subs)) said array space = inner (images_between sources subs said array space)
  images_of other said array space = None

  -- the images of an array in its base, by the statement that aligns it
  unfoldable pub images_by : (statement array base : ℕ) → Option (List Image)
  images_by k n b = images_of (slice_get items k) (said_by k) (shape_at n) (shape_at b)

-- An element of an array lies at a position of its ultimate base: itself, where the array is distributed; else where one of
-- its images in the base lies.
pub data LiesAt (names : List Name) (items : List ItemTree) : (array : ℕ) (index : List ℤ) (base : ℕ) (position : List ℤ) → Type 0 where
  Itself : (n k : ℕ) (index : List ℤ) → way_at (ways_of names items) n ≡ Distributed k → LiesAt names items n index n index
  Through : (n k b root : ℕ) (images : List Image) (index between position : List ℤ)
      → way_at (ways_of names items) n ≡ Aligned k (Some b) → images_by names items k n b ≡ Some images
      → Contains (choices (map (λ image. positions image index) images)) between
      → LiesAt names items b between root position → LiesAt names items n index root position

-- ---- from position to processor

-- whether a coordinate owns the position with so many before it; a dimension that isn't divided is no matter
abbrev pub is_owner : Option Format → (procs before coordinate : ℕ) → Bool
is_owner None n x c = true
is_owner (Some format) n x c = own format n x == c

module _ (dealt : Dealt) (spans : List Span) (at : List ℕ) (position : List ℤ) where
  -- whether a position is owned at these coordinates in a dimension, by the one along the dimension of the arrangement that
  -- its format takes
  abbrev pub is_owned_in : ℕ → Bool
  is_owned_in k =
      let s : Span = slice_index_or spans k no_span in
      is_owner (format_at dealt spans k) (extent (target_at dealt spans k)) (before s.low (slice_index_or position k (pos 0)))
      (slice_index_or at (over dealt.formats k) 0)

  -- in each dimension
  unfoldable pub owned_at : Bool
  owned_at = list_all is_owned_in (range_with_len 0 (length dealt.formats))

-- the formats of a statement, if it distributes
abbrev pub dealing_of : List Name → Option ItemTree → Option (List (Option ℤ)) → Option Dealt
dealing_of names (Some (Distribute distributees formats onto)) widths = Some (dealing names formats onto widths)
dealing_of names other widths = None

module _ (names : List Name) (items : List ItemTree) where
  -- the formats of the statement at a place
  unfoldable pub dealing_by : ℕ → Option Dealt
  dealing_by k = dealing_of names (slice_get items k) (at_place k (all_widths items))

  abbrev pub sizes_of : Option Dealt → List ℕ
  sizes_of None = []
  sizes_of (Some dealt) = map extent dealt.target

  -- the extents of the arrangement onto which a statement distributes
  unfoldable pub sizes_by : ℕ → List ℕ
  sizes_by k = sizes_of (dealing_by k)

  -- whether a processor owns a position of a name that a statement distributes
  unfoldable pub owns_by : (statement name processor : ℕ) → List ℤ → Bool
  owns_by k n p position = owns (dealing_by k) (shape_at names items n) where
    owns : Option Dealt → Option (List Span) → Bool
    owns (Some dealt) (Some spans) = owned_at dealt spans (coordinates (sizes_by k) p) position
    owns dealt spans = false

-- A processor owns an element where it owns some position at which the element lies.
pub record Owns (names : List Name) (items : List ItemTree) (array processor : ℕ) (index : List ℤ) : Type 0 where
  pub base : ℕ
  pub statement : ℕ
  pub position : List ℤ
  pub lies : LiesAt names items array index base position
  pub distributed : way_at (ways_of names items) base ≡ Distributed statement
  pub owned : owns_by names items statement base processor position ≡ true

-- A mapping is that of an array: its bounds, the widths of its own SHADOW, the processors of the arrangement onto which its
-- ultimate base is distributed, and of each element the owners that the statements give.
pub record IsMappingOf (names : List Name) (items : List ItemTree) (array base statement : ℕ) (m : PlainMapping) : Type 0 where
  pub bounds : option_map (map run_of) (shape_at names items array) ≡ Some m.bounds
  pub shadow : shadow_at names items array (length m.bounds) ≡ Some m.shadow
  pub procs : m.procs ≡ sizes_by names items statement
  pub owners : (p : ℕ) (index : List ℤ) → p < product m.procs → LiesIn m.bounds index
      → IsTrue (mapping.owns m p index) ↔ Owns names items array p index
