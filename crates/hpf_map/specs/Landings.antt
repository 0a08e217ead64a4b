-- Where the elements of an array lie in its ultimate base, as images.
use Rattle.std.specs.Prelude.{ℕ, ◌≡◌, ◌<◌, List, [], ◌∷◌, length, map, true, Option, Some, option_and_then, ◌≤◌, ◌⊎◌, slice_get, slice_index_or, ◌↔◌, ℤ}
use Rattle.hpf_own.specs.Image.{positions, subscript}
use Rattle.hpf_own.specs.Mapping.{follows}
use Rattle.hpf_own.specs.Space.{LiesIn}
use Rattle.hpf_own.specs.declared.image.Image.{Image}
use Rattle.hpf_syntax.specs.Plain.{ItemTree}
use Rattle.hpf_map.specs.declared.name.Name.{Name}
use Rattle.hpf_map.specs.declared.name.Span.{Span}
use Rattle.hpf_map.specs.declared.landings.Landing.{Landing}
use Rattle.hpf_map.specs.declared.way.Way.{Way}
use Rattle.hpf_map.specs.declared.way.Way.TheVariants.{Distributed, Aligned}
use Rattle.hpf_map.specs.Composed.{no_image, composed, ArePlain, HasSeveral, AreSound, AreAligned, AreImages, LiesUnder}
use Rattle.hpf_map.specs.Ownership.{shape_at, images_by, LiesAt}
use Rattle.hpf_map.specs.Spaces.{run_of, meaning_shape}
use Rattle.hpf_map.specs.Ways.{ways_of, way_at}

-- an image of a dimension in itself
pub record IsItself (array : List Span) (d : ℕ) (image : Image) : Type 0 where
  pub several : HasSeveral array image
  pub follows : (e : ℕ) → follows e image ≡ true → e ≡ d
  pub same : (index : List ℤ) → LiesIn (map run_of array) index → positions image index ≡ subscript index d ∷ []

-- the images of an array in itself
pub record AreThemselves (array : List Span) (images : List Image) : Type 0 where
  pub size : length images ≡ length array
  pub each : (d : ℕ) → d < length images → IsItself array d (slice_index_or images d no_image)

module _ (names : List Name) (items : List ItemTree) where
  -- Images of an array in its ultimate base, which this statement distributes: elements lie under them as the directives
  -- say, and nowhere else.
  pub record IsLanding (array base statement : ℕ) (images : List Image) : Type 0 where
    pub shape : List Span
    pub root : List Span
    pub has_shape : shape_at names items array ≡ Some shape
    pub has_root : shape_at names items base ≡ Some root
    pub distributed : way_at (ways_of names items) base ≡ Distributed statement
    pub images_are : AreImages shape root images
    pub lies : (index : List ℤ) (end : ℕ) (position : List ℤ) → LiesIn (map run_of shape) index
        → LiesAt names items array index end position ↔ ((end ≡ base) × LiesUnder images index position)

  -- the shapes of names are sound
  abbrev pub ShapesAreSound : Type 0
  ShapesAreSound = (n : ℕ) (spans : List Span) → shape_at names items n ≡ Some spans → AreSound spans

  -- how a name is aligned, where no directive has a breach
  pub record IsAlignedWith (array statement base : ℕ) (images : List Image) : Type 0 where
    pub way : way_at (ways_of names items) array ≡ Aligned statement (Some base)
    pub said : images_by names items statement array base ≡ Some images
    pub shape : List Span
    pub root : List Span
    pub has_shape : shape_at names items array ≡ Some shape
    pub has_root : shape_at names items base ≡ Some root
    pub aligned : AreAligned shape root images

-- ---- one directive after another, as images

-- the shape of a name, where it is free
abbrev pub name_shape : List Name → ℕ → Option (List Span)
name_shape names n = option_and_then (λ name. meaning_shape name.meaning) (slice_get names n)

-- how a name is aligned with its base: its images there, which are listed, and the shapes of both
pub record AlignedAt (names : List Name) (direct : List (Option (List Image))) (array base : ℕ) : Type 0 where
  pub images : List Image
  pub shape : List Span
  pub root : List Span
  pub listed : slice_get direct array ≡ Some (Some images)
  pub has_shape : name_shape names array ≡ Some shape
  pub has_root : name_shape names base ≡ Some root
  pub aligned : AreAligned shape root images

-- names that no directive maps with a breach
pub record AreClear (names : List Name) (ways : List Way) (direct : List (Option (List Image))) : Type 0 where
  pub sound : (n : ℕ) (spans : List Span) → name_shape names n ≡ Some spans → AreSound spans
  pub short : (n : ℕ) (spans : List Span) → name_shape names n ≡ Some spans → length spans ≤ 7
  pub distributed : (n k : ℕ) → way_at ways n ≡ Distributed k → (spans : List Span) × (name_shape names n ≡ Some spans)
  pub aligned : (n k b : ℕ) → way_at ways n ≡ Aligned k (Some b) → AlignedAt names direct n b

-- Images of an array in its ultimate base: its own where a statement distributes it, else those that come of its images in
-- the base and of the images of that.
pub data Lands (names : List Name) (ways : List Way) (direct : List (Option (List Image))) : (array base statement : ℕ) (images : List Image) → Type 0 where
  Here : (n k : ℕ) (shape : List Span) (images : List Image) → name_shape names n ≡ Some shape → way_at ways n ≡ Distributed k
      → AreThemselves shape images → Lands names ways direct n n k images
  Onward : (n k b base statement : ℕ) (shape : List Span) (images first second : List Image) → name_shape names n ≡ Some shape
      → way_at ways n ≡ Aligned k (Some b) → slice_get direct n ≡ Some (Some images) → ArePlain shape images first
      → Lands names ways direct b base statement second → Lands names ways direct n base statement (map (composed shape first) second)

-- what is asked of an array and its images in a base, to go on from the images of that
pub record CanGoOn (array : List Span) (images second : List Image) : Type 0 where
  pub base : List Span
  pub root : List Span
  pub sound : AreSound array
  pub sound_base : AreSound base
  pub sound_root : AreSound root
  pub aligned : AreAligned array base images
  pub onward : AreImages base root second

-- images that come of those in a base and of those of the base
abbrev pub ComesOf : List Span → (images second result : List Image) → Type 0
ComesOf array images second result = (first : List Image) × ArePlain array images first × (result ≡ map (composed array first) second)

-- each that is listed is one
abbrev pub AreLandings : List Name → List Way → List (Option (List Image)) → List (Option Landing) → Type 0
AreLandings names ways direct landings = (n : ℕ) (l : Landing) → slice_get landings n ≡ Some (Some l)
    → Lands names ways direct n l.base l.statement l.images

-- one is listed for a name
abbrev pub IsSettled : List (Option Landing) → ℕ → Type 0
IsSettled landings n = (l : Landing) × (slice_get landings n ≡ Some (Some l))

-- what is listed stays so
abbrev pub StaysSettled : (old new : List (Option Landing)) → Type 0
StaysSettled old new = (length new ≡ length old) × ((n : ℕ) → IsSettled old n → IsSettled new n)

-- a name whose landing can be told: a statement distributes it, or its base's landing is listed
abbrev pub CanLand : List Way → List (Option Landing) → ℕ → Type 0
CanLand ways landings n = ((k : ℕ) × (way_at ways n ≡ Distributed k)) ⊎ ((k : ℕ) × (b : ℕ) × (way_at ways n ≡ Aligned k (Some b)) × IsSettled landings b)

-- the images that are listed are those that the statements say
abbrev pub AreSaid : List Name → List ItemTree → List (Option (List Image)) → Type 0
AreSaid names items direct = (n k b : ℕ) (images : List Image) → way_at (ways_of names items) n ≡ Aligned k (Some b)
    → slice_get direct n ≡ Some (Some images) → images_by names items k n b ≡ Some images
