-- A mapping as a plain value, and what is asked of it.
use Rattle.std.specs.Prelude.{ℕ, ◌≡◌, ◌^◌, ◌<◌, ◌≤◌, Bool, false, ◌==◌, List, length, filter, slice_index, All, ℤ, pos, neg_ℤ, ◌≤ℤ◌, unsigned_abs}
use Rattle.hpf_num.specs.declared.run.Run.{Run}
use Rattle.hpf_num.specs.Run.{extent}
use Rattle.hpf_dist.specs.Axis.{Divided}
use Rattle.hpf_dist.specs.declared.format.Format.TheVariants.{Block}
use Rattle.hpf_dist.specs.Spread.{IsPosition, HasOwners as AxisHasOwners}
use Rattle.hpf_own.specs.declared.image.Image.{Image}
use Rattle.hpf_own.specs.declared.image.Image.TheVariants.{Along, Fixed, Spread}
use Rattle.hpf_own.specs.declared.image.Cut.{Cut}
use Rattle.hpf_own.specs.declared.image.Cut.TheVariants.{Whole, Over}
use Rattle.hpf_own.specs.declared.image.BaseDim.{BaseDim}
use Rattle.hpf_own.specs.declared.widths.Width.{Width}
use Rattle.hpf_own.specs.Space.{LiesIn, size_of}
use Rattle.hpf_own.specs.Lists.{IsBounds, IsSizes}
use Rattle.hpf_own.specs.Image.{positions}
use Rattle.hpf_num.specs.Limits.{integer_limit}
use Rattle.hpf_own.specs.Limits.{element_limit}

-- the bounds of an array, its base dimension by dimension, the sizes of the arrangement, and the widths of its shadow
pub record PlainMapping : Type 0 where
  pub bounds : List Run
  pub dims : List BaseDim
  pub procs : List ℕ
  pub shadow : List Width

-- bounds within the limits that this project sets
pub record AreInLimits (bounds : List Run) : Type 0 where
  pub least : All (λ run. neg_ℤ (pos integer_limit) ≤ℤ run.low) bounds
  pub greatest : All (λ run. run.high ≤ℤ pos integer_limit) bounds
  pub extents : All (λ run. extent run ≤ element_limit) bounds
  pub elements : size_of bounds ≤ element_limit

-- neither width of a shadow is above the limit that this project sets
pub record IsSmallWidth (width : Width) : Type 0 where
  pub low : width.low ≤ integer_limit
  pub high : width.high ≤ integer_limit

-- a dimension of the base that follows a dimension of the array follows one of so many
abbrev pub FollowsBelow : ℕ → Image → Type 0
FollowsBelow rank (Along dim a b) = dim < rank
FollowsBelow rank (Fixed n) = Unit {0}
FollowsBelow rank (Spread first step count) = Unit {0}

-- whether it follows this one
abbrev pub follows : ℕ → Image → Bool
follows d (Along dim a b) = dim == d
follows d (Fixed n) = false
follows d (Spread first step count) = false

-- a dimension of the base that is divided is so over one of so many dimensions of the arrangement
abbrev pub DividedBelow : ℕ → Cut → Type 0
DividedBelow rank Whole = Unit {0}
DividedBelow rank (Over dim axis) = dim < rank

-- whether it is divided over this one
abbrev pub divides : ℕ → Cut → Bool
divides d Whole = false
divides d (Over dim axis) = dim == d

-- it is divided over as many processors as the arrangement has there
abbrev pub HasSizeOf : List ℕ → Cut → Type 0
HasSizeOf sizes Whole = Unit {0}
HasSizeOf sizes (Over dim axis) = axis.procs ≡ slice_index sizes dim

-- positions are ones of a divided dimension
abbrev pub StayIn : Cut → List ℤ → Type 0
StayIn Whole us = Unit {0}
StayIn (Over dim axis) us = All (IsPosition axis) us

-- each position of each element is
abbrev pub StaysWithin : List Run → Image → Cut → Type 0
StaysWithin bounds image cut = (index : List ℤ) → LiesIn bounds index → StayIn cut (positions image index)

-- the coefficients of a linear image are within the limits that this project sets
abbrev pub HasSmallCoefficients : Image → Type 0
HasSmallCoefficients (Along dim a b) = (unsigned_abs a ≤ integer_limit) × (unsigned_abs b ≤ 2 ^ 62)
HasSmallCoefficients (Fixed n) = Unit {0}
HasSmallCoefficients (Spread first step count) = Unit {0}

-- an array that is replicated has a position
abbrev pub HasSome : Image → Type 0
HasSome (Along dim a b) = Unit {0}
HasSome (Fixed n) = Unit {0}
HasSome (Spread first step count) = 1 ≤ count

-- an index of which a dimension of a base may be asked for its positions
pub record HasPositions (d : BaseDim) (index : List ℤ) : Type 0 where
  pub followed : FollowsBelow (length index) d.image
  pub coefficients : HasSmallCoefficients d.image
  pub subscripts : All (λ i. unsigned_abs i ≤ integer_limit) index
  pub within : StayIn d.cut (positions d.image index)

-- bounds of an array of which a divided dimension may be asked which coordinates send
pub record CanLead (image : Image) (axis : Divided) (bounds : List Run) : Type 0 where
  pub ordered : IsBounds bounds
  pub limits : AreInLimits bounds
  pub followed : FollowsBelow (length bounds) image
  pub coefficients : HasSmallCoefficients image
  pub within : (index : List ℤ) → LiesIn bounds index → All (IsPosition axis) (positions image index)
  pub some : HasSome image

abbrev pub CanLeadAt : Image → Cut → List Run → Type 0
CanLeadAt image Whole bounds = Unit {0}
CanLeadAt image (Over dim axis) bounds = CanLead image axis bounds

-- what is asked of the dimensions of a base, for an array with these bounds and an arrangement of these sizes
pub record AreDims (bounds : List Run) (dims : List BaseDim) (procs : List ℕ) : Type 0 where
  pub followed : All (λ d. FollowsBelow (length bounds) d.image) dims
  pub once : (e : ℕ) → length (filter (λ d. follows e d.image) dims) ≤ 1
  pub divided : All (λ d. DividedBelow (length procs) d.cut) dims
  pub each_once : (e : ℕ) → e < length procs → length (filter (λ d. divides e d.cut) dims) ≡ 1
  pub sizes : All (λ d. HasSizeOf procs d.cut) dims
  pub within : All (λ d. StaysWithin bounds d.image d.cut) dims
  pub coefficients : All (λ d. HasSmallCoefficients d.image) dims
  pub some : All (λ d. HasSome d.image) dims

-- each position of a divided dimension is owned at one of its coordinates
abbrev pub HasOwners : Cut → Type 0
HasOwners Whole = Unit {0}
HasOwners (Over dim axis) = AxisHasOwners axis

-- a mapping that may be
pub record IsMapping (m : PlainMapping) : Type 0 where
  pub bounds : IsBounds m.bounds
  pub limits : AreInLimits m.bounds
  pub procs : IsSizes m.procs
  pub dims : AreDims m.bounds m.dims m.procs
  pub one_width : length m.shadow ≡ length m.bounds
  pub widths : All IsSmallWidth m.shadow
  pub owners : All (λ d. HasOwners d.cut) m.dims

-- a dimension of a base with the one position 1, divided over one processor
abbrev pub one_position : BaseDim
one_position = record { image = Fixed (pos 1); cut = Over 0 (record { low = pos 1; high = pos 1; procs = 1; format = Block 1 }) }

abbrev pub IsOnePosition : BaseDim → Type 0
IsOnePosition d = d ≡ one_position
