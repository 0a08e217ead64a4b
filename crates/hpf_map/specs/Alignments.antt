-- Where the elements of an array lie in the base with which an ALIGN aligns it (High Performance Fortran 2.0, Data Mapping,
-- ALIGN; Fortran 90, subscript triplets).
use Rattle.std.specs.Prelude.{ℕ, List, [], ◌∷◌, ◌++◌, length, map, drop, Bool, false, not, ◌&&◌, ◌||◌, ◌==◌, Option, Some, None, option_map, unwrap_or, if◌then◌else◌, replicate, ◌+◌, All, ◌≤ℤ◌, ℤ, pos, ◌+ℤ◌, ◌-ℤ◌, ◌*ℤ◌, int_lt, int_div, slice_index_or}
use Rattle.std.specs.List.{flat_map, list_any, range_with_len}
use Rattle.hpf_lex.specs.declared.refusal.MapRefusal.{MapRefusal}
use Rattle.hpf_num.specs.Run.{or_zero}
use Rattle.hpf_own.specs.Image as image
use Rattle.hpf_own.specs.Space.{indices}
use Rattle.hpf_own.specs.declared.image.Image.{Image}
use Rattle.hpf_own.specs.declared.image.Image.TheVariants.{Along, Fixed, Spread}
use Rattle.hpf_syntax.specs.declared.tree.Spot.{Spot}
use Rattle.hpf_syntax.specs.declared.tree.SourceItem.{SourceItem}
use Rattle.hpf_syntax.specs.declared.tree.SourceItem.TheVariants as source
use Rattle.hpf_syntax.specs.Plain.{SubTree, ItemTree, Align}
use Rattle.hpf_map.specs.declared.constraint.Constraint.TheVariants.{Rank, Unlike, Outside}
use Rattle.hpf_map.specs.declared.name.Name.{Name}
use Rattle.hpf_map.specs.declared.name.Span.{Span}
use Rattle.hpf_map.specs.declared.role.Role.TheVariants.{Array, Mapped}
use Rattle.hpf_map.specs.declared.subscript.Subscript.{Subscript}
use Rattle.hpf_map.specs.declared.subscript.Subscript.TheVariants as subscript
use Rattle.hpf_map.specs.Constraint.{breach, breach_if}
use Rattle.hpf_map.specs.Shapes.{extent}
use Rattle.hpf_map.specs.Spaces.{run_of, shape_of, counts_agree}
use Rattle.hpf_map.specs.Uses.{is_dummy}

-- ---- sources

-- the dimensions of the `:` sources, from this number on
abbrev pub colons_from : ℕ → List SourceItem → List ℕ
colons_from d [] = []
colons_from d (source.Colon at ∷ sources) = d ∷ colons_from (d + 1) sources
colons_from d (source.Star at ∷ sources) = colons_from (d + 1) sources
colons_from d (source.Dummy dummy ∷ sources) = colons_from (d + 1) sources

-- the dimensions of the `:` sources of an array of this rank, in order; no list stands for `:` in each dimension
abbrev pub colons : ℕ → Option (List SourceItem) → List ℕ
colons rank None = range_with_len 0 rank
colons rank (Some sources) = colons_from 0 sources

-- how many sources are written
abbrev pub option_length : Option (List SourceItem) → ℕ
option_length None = 0
option_length (Some sources) = length sources

-- the dimension whose source is this dummy, from this number on
abbrev pub dummy_from : ℕ → List SourceItem → List ℕ → ℕ
dummy_from d [] word = 0
dummy_from d (source ∷ sources) word = if is_dummy word source then d else dummy_from (d + 1) sources word

abbrev pub dummy_dimension : Option (List SourceItem) → List ℕ → ℕ
dummy_dimension None word = 0
dummy_dimension (Some sources) word = dummy_from 0 sources word

-- ---- triplets

-- a triplet of which nothing is written, which `:` is
abbrev pub whole_dimension : Subscript
whole_dimension = subscript.Triplet None None None

module _ (low high stride : Option ℤ) (base : Span) where
  -- what isn't written is the base's lower bound, its upper bound and 1
  abbrev pub first : ℤ
  first = unwrap_or low base.low

  abbrev pub last : ℤ
  last = unwrap_or high base.high

  abbrev pub step : ℤ
  step = unwrap_or stride (pos 1)

  -- how many positions there are
  unfoldable pub triplet_extent : ℕ
  triplet_extent = or_zero (int_div ((last -ℤ first) +ℤ step) step)

  -- a step that isn't 0, and as many positions as a dimension of the array has elements
  abbrev pub matches : Span → Bool
  matches s = (int_lt step (pos 0) || int_lt (pos 0) step) && (triplet_extent == extent s)

  -- The element at place k of the dimension lies at place k of the positions.
  abbrev pub triplet_image : ℕ → Span → Image
  triplet_image d s = Along d step (first -ℤ (step *ℤ s.low))

-- ---- images

-- the position that a linear form gives
abbrev pub form_image : Option (List SourceItem) → Option (List ℕ) → ℤ → ℤ → Image
form_image sources None a b = Fixed b
form_image sources (Some word) a b = Along (dummy_dimension sources word) a b

-- every position of a dimension
abbrev pub any_image : Span → Image
any_image s = Spread s.low (pos 1) (extent s)

-- for a dimension that isn't there
abbrev pub no_span : Span
no_span = record { low = pos 0; high = pos 0 }

-- what is left of the `:` sources behind a subscript: a triplet takes the first
abbrev pub colons_left : List ℕ → Subscript → List ℕ
colons_left ds subscript.Any = ds
colons_left ds (subscript.Linear dummy a b) = ds
colons_left ds (subscript.Triplet low high stride) = drop 1 ds

-- at the end none is left
abbrev pub at_end : List ℕ → Option (List Image)
at_end [] = Some []
at_end (d ∷ ds) = None

-- one image in front of others, where all are there
abbrev pub in_front : Option Image → Option (List Image) → Option (List Image)
in_front None images = None
in_front (Some image) images = option_map (λ rest. image ∷ rest) images

module _ (array : List Span) where
  -- a triplet is matched with the first `:` source
  abbrev pub matched_image : List ℕ → (low high stride : Option ℤ) → Span → Option Image
  matched_image [] low high stride s = None
  matched_image (d ∷ ds) low high stride s =
      let a : Span = slice_index_or array d no_span in
      if matches low high stride s a then Some (triplet_image low high stride s d a) else None

module _ (array : List Span) (sources : Option (List SourceItem)) where
  -- where elements lie in a dimension of the base
  abbrev pub image_in : List ℕ → Subscript → Span → Option Image
  image_in ds subscript.Any s = Some (any_image s)
  image_in ds (subscript.Linear dummy a b) s = Some (form_image sources dummy a b)
  image_in ds (subscript.Triplet low high stride) s = matched_image array ds low high stride s

  -- Where elements lie in each dimension of the base. The `:` sources, whose dimensions these are, match the triplets in
  -- order. It is none where their numbers differ, where a step is 0 or where extents differ.
  unfoldable pub arranged : (colons : List ℕ) → List Subscript → (base : List Span) → Option (List Image)
  arranged ds [] base = at_end ds
  arranged ds (sub ∷ subs) [] = at_end ds
  arranged ds (sub ∷ subs) (s ∷ base) = in_front (image_in ds sub s) (arranged (colons_left ds sub) subs base)

-- ---- an alignee

-- the subscripts of a base of this rank; no list stands for `:` in each dimension
abbrev pub written_subscripts : ℕ → Option (List SubTree) → List Subscript → List Subscript
written_subscripts rank None said = replicate rank whole_dimension
written_subscripts rank (Some subs) said = said

-- no lower bound is above its upper one
abbrev pub Ordered : List Span → Type 0
Ordered spans = All (λ s. s.low ≤ℤ s.high) spans

-- a position isn't the base's
abbrev pub is_beyond : Span → ℤ → Bool
is_beyond s u = int_lt u s.low || int_lt s.high u

-- an element is aligned with such a position in a dimension (a subscript `*` stands for positions that there are)
abbrev pub strays : List ℤ → Image → Span → Bool
strays index (Along d a b) s = is_beyond s (a *ℤ image.subscript index d +ℤ b)
strays index (Fixed n) s = is_beyond s n
strays index (Spread start stride count) s = false

-- in some dimension
abbrev pub strays_in_some : List ℤ → List Image → List Span → Bool
strays_in_some index [] base = false
strays_in_some index (image ∷ images) [] = false
strays_in_some index (image ∷ images) (s ∷ base) = strays index image s || strays_in_some index images base

-- some element is
unfoldable pub is_outside : (array base : List Span) → List Image → Bool
is_outside array base images = list_any (λ index. strays_in_some index images base) (indices (map run_of array))

module _ (sources : Option (List SourceItem)) (subs : Option (List SubTree)) where
  -- The images of an alignee in its base, where both shapes are free and so are the subscripts, and as many sources and
  -- subscripts are written as there are dimensions. It is none for what has a breach, and none inside for what is Unlike.
  abbrev pub images_between : Option (List Subscript) → Option (List Span) → Option (List Span) → Option (Option (List Image))
  images_between None array base = None
  images_between (Some said) None base = None
  images_between (Some said) (Some array) None = None
  images_between (Some said) (Some array) (Some base) =
      if counts_agree sources array && counts_agree subs base
      then Some (arranged array sources (colons (length array) sources) (written_subscripts (length base) subs said) base) else None

  abbrev pub position_breaches : Spot → Option (List Span) → Option (List Span) → Option (Option (List Image)) → List MapRefusal
  position_breaches alignee array base None = []
  position_breaches alignee array base (Some None) = breach Unlike alignee.at ∷ []
  position_breaches alignee None base (Some (Some images)) = []
  position_breaches alignee (Some array) None (Some (Some images)) = []
  position_breaches alignee (Some array) (Some base) (Some (Some images)) = breach_if (is_outside array base images) Outside alignee.at

-- another number than there are dimensions
abbrev pub count_breaches : {A : Type 0} → Option (List A) → Spot → Option (List Span) → List MapRefusal
count_breaches written spot None = []
count_breaches written spot (Some spans) = breach_if (not (counts_agree written spans)) Rank spot.at

module _ (names : List Name) where
  -- the breaches of an alignee
  unfoldable pub alignee_breaches : Option (List SourceItem) → Spot → Option (List SubTree) → Option (List Subscript) → Spot → List MapRefusal
  alignee_breaches sources base subs said alignee =
      let array = shape_of names Array alignee.word in
      let space = shape_of names Mapped base.word in
      count_breaches sources alignee array
      ++ position_breaches sources subs alignee array space (images_between sources subs said array space)

  -- the breaches of an ALIGN whose subscripts say this, but for those in subscripts and names by themselves
  unfoldable pub align_breaches : ItemTree → Option (List Subscript) → List MapRefusal
  align_breaches (Align alignees sources base subs) said =
      count_breaches subs base (shape_of names Mapped base.word) ++ flat_map (alignee_breaches sources base subs said) alignees
  align_breaches item said = []
