-- The coordinates at which all elements of an array lie, where these don't depend on the element, as they are kept.
use Rattle.std.specs.Prelude.{ℕ, ◌≡◌, ◌<◌, Bool, true, false, IsTrue, List, [], length, find, slice_index_or, Option, Some, None, IfSome, ℤ}
use Rattle.hpf_own.specs.declared.common.Common.{Common}
use Rattle.hpf_own.specs.declared.image.Image.{Image}
use Rattle.hpf_own.specs.declared.image.Image.TheVariants.{Along, Fixed, Spread}
use Rattle.hpf_own.specs.declared.image.Cut.{Cut}
use Rattle.hpf_own.specs.declared.image.Cut.TheVariants.{Whole, Over}
use Rattle.hpf_own.specs.declared.image.BaseDim.{BaseDim}
use Rattle.hpf_own.specs.Limits.{dimension_limit}
use Rattle.hpf_own.specs.Image.{positions}
use Rattle.hpf_own.specs.Mapping.{PlainMapping, IsMapping, HasPositions, HasSome, divides}
use Rattle.hpf_own.specs.Owners.{IsLeast, holds_at}
use Rattle.hpf_own.specs.OwnerSet.{IsRepeated}

-- whether all elements have the same positions in a dimension of the base
abbrev pub is_steady : Image → Bool
is_steady (Along dim a b) = false
is_steady (Fixed n) = true
is_steady (Spread first step count) = true

-- these positions may be asked for, which no subscript has a part in
pub record MayBeSteady (d : BaseDim) : Type 0 where
  pub positions : IsTrue (is_steady d.image) → HasPositions d []
  pub some : HasSome d.image

-- how many processors a dimension is divided over, if it is
abbrev pub procs_of : Cut → Option ℕ
procs_of Whole = None
procs_of (Over dim axis) = Some axis.procs

-- the coordinates below so many that pass a test, as the bits of a number, and the least of them
pub record KeepsCoordinates (test : ℕ → Bool) (size : ℕ) (kept : Common) : Type 0 where
  pub set : IsRepeated test 1 1 size kept.set
  pub least : IsLeast test kept.least
  pub below : kept.least < size

abbrev pub AreCommonAt : List ℤ → Cut → Common → Type 0
AreCommonAt us Whole kept = ⊥
AreCommonAt us (Over dim axis) kept = KeepsCoordinates (holds_at (Over dim axis) us) axis.procs kept

abbrev pub AreCommonOf : List ℤ → Option BaseDim → Common → Type 0
AreCommonOf index None kept = ⊥
AreCommonOf index (Some d) kept = AreCommonAt (positions d.image index) d.cut kept

-- what is kept of each dimension of the arrangement is so for all elements
pub record AreAllCommon (dims : List BaseDim) (common : List (Option Common)) : Type 0 where
  pub size : length common ≡ dimension_limit
  pub each : (e : ℕ) (index : List ℤ) → e < dimension_limit → IfSome (slice_index_or common e None) (AreCommonOf index (find (λ d. divides e d.cut) dims))

-- a mapping with what is kept of it
pub record IsKeptMapping (m : PlainMapping) (common : List (Option Common)) : Type 0 where
  pub mapping : IsMapping m
  pub same : AreAllCommon m.dims common
