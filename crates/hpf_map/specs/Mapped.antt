-- The mapping of an array, from its images in its ultimate base and how that is divided.
use Rattle.std.specs.Prelude.{ℕ, ◌≡◌, ◌<◌, List, length, map, All, slice_index_or, Some, slice_get}
use Rattle.hpf_own.specs.Mapping.{PlainMapping}
use Rattle.hpf_own.specs.declared.image.BaseDim.{BaseDim}
use Rattle.hpf_own.specs.declared.image.Cut.TheVariants.{Whole}
use Rattle.hpf_own.specs.declared.image.Image.{Image}
use Rattle.hpf_own.specs.declared.widths.Width.{Width}
use Rattle.hpf_syntax.specs.Plain.{ItemTree}
use Rattle.hpf_map.specs.declared.name.Dimensions.{Dimensions}
use Rattle.hpf_map.specs.declared.name.Meaning.TheVariants.{Shaped}
use Rattle.hpf_map.specs.declared.name.Name.{Name}
use Rattle.hpf_map.specs.declared.name.Space.TheVariants.{Array, Arrangement}
use Rattle.hpf_map.specs.declared.name.Span.{Span}
use Rattle.hpf_map.specs.Composed.{no_image, AreImages}
use Rattle.hpf_map.specs.Cuts.{cut_at, AreMet}
use Rattle.hpf_map.specs.Dealing.{Dealt}
use Rattle.hpf_map.specs.Distributions.{divided}
use Rattle.hpf_map.specs.Landings.{IsLanding}
use Rattle.hpf_map.specs.Ownership.{shape_at, dealing_by}
use Rattle.hpf_map.specs.Shapes.{extent, max_extent}
use Rattle.hpf_map.specs.Sound.{IsSoundSpan, IsSoundShape, AreSoundNames}
use Rattle.hpf_map.specs.Spaces.{run_of}

-- what stands behind the end of a list of dimensions of a base
abbrev pub no_dim : BaseDim
no_dim = record { image = no_image; cut = Whole }

-- a dimension of a base, with an image in it and how it is cut
abbrev pub cut_dim : Dealt → List Span → List Image → ℕ → BaseDim
cut_dim dealt spans images e = record { image = slice_index_or images e no_image; cut = cut_at dealt spans e }

-- all dimensions of a base
pub record AreCut (dealt : Dealt) (spans : List Span) (images : List Image) (dims : List BaseDim) : Type 0 where
  pub size : length dims ≡ length spans
  pub each : (e : ℕ) → e < length dims → slice_index_or dims e no_dim ≡ cut_dim dealt spans images e

-- what is asked of a base and of formats, to cut it by them
pub record CanBeCut (dealt : Dealt) (spans : List Span) : Type 0 where
  pub spans_are : All (IsSoundSpan max_extent) spans
  pub target_is : IsSoundShape Arrangement (length dealt.target) dealt.target
  pub rank : length dealt.formats ≡ length spans
  pub over : divided dealt.formats ≡ length dealt.target
  pub met : AreMet dealt spans

-- an array, its ultimate base, the formats by which that is cut, and images of the array in the base
pub record CanBeMapped (array root : List Span) (dealt : Dealt) (images : List Image) : Type 0 where
  pub array_is : IsSoundShape Array (length array) array
  pub cut : CanBeCut dealt root
  pub images_are : AreImages array root images

-- the mapping of such an array, with this shadow
pub record IsMapped (array root : List Span) (dealt : Dealt) (images : List Image) (shadow : List Width) (m : PlainMapping) : Type 0 where
  pub bounds : m.bounds ≡ map run_of array
  pub dims : AreCut dealt root images m.dims
  pub procs : m.procs ≡ map extent dealt.target
  pub widths : m.shadow ≡ shadow

-- ---- names

-- a name is an array
pub record IsArray (name : Name) : Type 0 where
  pub dimensions : Dimensions
  pub is : name.meaning ≡ Shaped Array dimensions

module _ (names : List Name) (items : List ItemTree) where
  -- a statement distributes a base by formats that are free, onto an arrangement, and what they ask for is met
  pub record IsDistributed (base statement : ℕ) : Type 0 where
    pub dealt : Dealt
    pub root : List Span
    pub said : dealing_by names items statement ≡ Some dealt
    pub has_root : shape_at names items base ≡ Some root
    pub cut : CanBeCut dealt root

  -- what is asked of names and statements, to map an array by its images in its ultimate base
  pub record CanMap (array base statement : ℕ) (images : List Image) : Type 0 where
    pub sound : AreSoundNames names
    pub name : Name
    pub named : slice_get names array ≡ Some name
    pub is_array : IsArray name
    pub landing : IsLanding names items array base statement images
    pub distributed : IsDistributed base statement
