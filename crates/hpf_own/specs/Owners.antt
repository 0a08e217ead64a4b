-- Owners and senders of the elements of a mapped array.
use Rattle.std.specs.Prelude.{ℕ, ◌≡◌, ◌<◌, Bool, true, false, ◌&&◌, ◌==◌, List, [], ◌∷◌, map, filter, find, slice_index, slice_index_or, All, Option, Some, None, ℤ, ◌+ℤ◌, ◌*ℤ◌}
use Rattle.std.specs.List.{range_with_len, list_any}
use Rattle.hpf_dist.specs.Axis.{Divided}
use Rattle.hpf_dist.specs.Spread.{owner_at, spread}
use Rattle.hpf_num.specs.declared.run.Run.{Run}
use Rattle.hpf_num.specs.Run.{LiesWithin}
use Rattle.hpf_own.specs.declared.image.Image.{Image}
use Rattle.hpf_own.specs.declared.image.Image.TheVariants.{Along, Fixed, Spread}
use Rattle.hpf_own.specs.declared.image.Cut.{Cut}
use Rattle.hpf_own.specs.declared.image.Cut.TheVariants.{Whole, Over}
use Rattle.hpf_own.specs.declared.image.BaseDim.{BaseDim}
use Rattle.hpf_own.specs.KeptLists.{no_run as no_bound, no_width}
use Rattle.hpf_own.specs.Space.{choices, indices, product, LiesIn}
use Rattle.hpf_own.specs.Image.{positions, images}
use Rattle.hpf_own.specs.Mapping.{PlainMapping, divides}

-- the coordinates of the processors of an arrangement, in element order (High Performance Fortran 2.0, PROCESSORS)
abbrev pub all_coordinates : List ℕ → List (List ℕ)
all_coordinates sizes = choices (map (range_with_len 0) sizes)

-- the coordinates of a processor, whose number is their place, from 0
abbrev pub coordinates : List ℕ → ℕ → List ℕ
coordinates sizes number = slice_index_or (all_coordinates sizes) number []

-- the numbers of the processors of an arrangement
abbrev pub numbers : List ℕ → List ℕ
numbers sizes = range_with_len 0 (product sizes)

-- whether a position is owned at these coordinates, in a dimension that is divided so; one that is whole is no matter
abbrev pub is_owned : Cut → List ℕ → ℤ → Bool
is_owned Whole at u = true
is_owned (Over dim axis) at u = owner_at axis u == slice_index at dim

-- whether a position of the base is, in each divided dimension
abbrev pub is_owned_whole : List BaseDim → List ℕ → List ℤ → Bool
is_owned_whole [] at position = true
is_owned_whole (d ∷ dims) at [] = false
is_owned_whole (d ∷ dims) at (u ∷ position) = is_owned d.cut at u && is_owned_whole dims at position

-- A processor owns an element where it owns some image of it (High Performance Fortran 2.0, ALIGN and DISTRIBUTE).
abbrev pub owns : PlainMapping → ℕ → List ℤ → Bool
owns m p index = list_any (is_owned_whole m.dims (coordinates m.procs p)) (images m.dims index)

-- the owners of an element, ascending
abbrev pub owners : PlainMapping → List ℤ → List ℕ
owners m index = filter (λ p. owns m p index) (numbers m.procs)

-- The sender of an element: its owner with the least number, or a number that is no processor's where it has no owner
-- (this project defines it).
abbrev pub sender : PlainMapping → List ℤ → ℕ
sender m index = slice_index_or (owners m index) 0 (product m.procs)

-- a processor sends where it owns some element and is its sender
abbrev pub sends : PlainMapping → ℕ → Bool
sends m p = list_any (λ index. owns m p index && (sender m index == p)) (indices m.bounds)

-- One processor owns all of an array with these bounds, which has no shadow.
pub record IsWhole (bounds : List Run) (m : PlainMapping) : Type 0 where
  pub same : m.bounds ≡ bounds
  pub one : product m.procs ≡ 1
  pub all : (index : List ℤ) → LiesIn bounds index → owns m 0 index ≡ true
  pub no_shadow : All (λ width. width ≡ no_width) m.shadow

-- ---- one dimension of the arrangement after another

-- whether some position of these is owned at a coordinate, in a dimension that is divided so
abbrev pub holds_at : Cut → List ℤ → ℕ → Bool
holds_at Whole us c = true
holds_at (Over dim axis) us c = list_any (λ u. owner_at axis u == c) us

abbrev pub holds_of : List ℤ → ℕ → Option BaseDim → Bool
holds_of index c None = false
holds_of index c (Some d) = holds_at d.cut (positions d.image index) c

-- whether an element has such a position in the dimension of the base that is divided over this one of the arrangement
abbrev pub holds : List BaseDim → List ℤ → ℕ → ℕ → Bool
holds dims index e c = holds_of index c (find (λ d. divides e d.cut) dims)

-- the least number that passes a test
pub record IsLeast (f : ℕ → Bool) (c : ℕ) : Type 0 where
  pub passes : f c ≡ true
  pub least : (j : ℕ) → j < c → f j ≡ false

-- a coordinate is one of those that the dimension is divided over
abbrev pub IsCoordinate : Cut → ℕ → Type 0
IsCoordinate Whole c = Unit {0}
IsCoordinate (Over dim axis) c = c < axis.procs

-- Whether a coordinate is that of the sender of some element, in a dimension that is divided so: an element of the array
-- lies there, or it is the least coordinate that owns a position of all of them.
abbrev pub Leads : Image → Divided → List Run → ℕ → Type 0
Leads (Along dim a b) axis bounds c = (x : ℤ) × LiesWithin (slice_index_or bounds dim no_bound) x × (owner_at axis (a *ℤ x +ℤ b) ≡ c)
Leads (Fixed n) axis bounds c = owner_at axis n ≡ c
Leads (Spread first step count) axis bounds c = IsLeast (λ j. list_any (λ u. owner_at axis u == j) (spread first step count)) c

abbrev pub LeadsAt : Image → Cut → List Run → ℕ → Type 0
LeadsAt image Whole bounds c = Unit {0}
LeadsAt image (Over dim axis) bounds c = Leads image axis bounds c

abbrev pub LeadsOf : List Run → ℕ → Option BaseDim → Type 0
LeadsOf bounds c None = ⊥
LeadsOf bounds c (Some d) = LeadsAt d.image d.cut bounds c
