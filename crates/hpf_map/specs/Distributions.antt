-- DISTRIBUTE and the arrangement that it distributes onto (High Performance Fortran 2.0, Data Mapping, DISTRIBUTE; without
-- ONTO this project takes the first arrangement that fits).
use Rattle.std.specs.Prelude.{ℕ, List, [], ◌∷◌, ◌++◌, length, filter, find, Bool, true, false, not, ◌&&◌, ◌||◌, ◌==◌, Option, Some, None, is_some, option_and_then, if◌then◌else◌}
use Rattle.std.specs.List.{flat_map, list_any}
use Rattle.hpf_lex.specs.declared.refusal.MapRefusal.{MapRefusal}
use Rattle.hpf_syntax.specs.declared.tree.Spot.{Spot}
use Rattle.hpf_syntax.specs.Plain.{FormatTree, Star, Block, Cyclic, GenBlock, Indirect, ItemTree, Distribute}
use Rattle.hpf_map.specs.declared.constraint.Constraint.TheVariants.{Rank, NoArrangement}
use Rattle.hpf_map.specs.declared.name.Meaning.{Meaning}
use Rattle.hpf_map.specs.declared.name.Meaning.TheVariants as meaning
use Rattle.hpf_map.specs.declared.name.Name.{Name}
use Rattle.hpf_map.specs.declared.name.Space.TheVariants as space
use Rattle.hpf_map.specs.declared.name.Span.{Span}
use Rattle.hpf_map.specs.declared.role.Role.TheVariants as role
use Rattle.hpf_map.specs.Constraint.{breach, breach_if}
use Rattle.hpf_map.specs.Spaces.{meaning_shape, shape_of, used_as}

-- whether a format divides its dimension
abbrev pub divides : FormatTree → Bool
divides (Star at) = false
divides (Block at width) = true
divides (Cyclic at width) = true
divides (GenBlock at lengths) = true
divides (Indirect at places) = true

-- the number of dimensions that are divided
abbrev pub divided : List FormatTree → ℕ
divided formats = length (filter divides formats)

-- ---- arrangements

abbrev pub is_arrangement : Meaning → Bool
is_arrangement (meaning.Shaped space.Arrangement dimensions) = true
is_arrangement other = false

-- an arrangement of which so many bounds are written
abbrev pub fits_meaning : ℕ → Meaning → Bool
fits_meaning count (meaning.Shaped space.Arrangement dimensions) = dimensions.count == count
fits_meaning count other = false

abbrev pub fits : ℕ → Name → Bool
fits count n = fits_meaning count n.meaning

-- an arrangement whose name or shape has a breach
abbrev pub is_broken : Name → Bool
is_broken n = is_arrangement n.meaning && not (n.free && is_some (meaning_shape n.meaning))

-- another number than a shape has dimensions, where that is free
abbrev pub count_differs : ℕ → Spot → Option (List Span) → List MapRefusal
count_differs count spot None = []
count_differs count spot (Some spans) = breach_if (not (count == length spans)) Rank spot.at

module _ (names : List Name) where
  -- the arrangement that is distributed onto: that of ONTO, or else the first one that fits
  unfoldable pub target : List FormatTree → Option Spot → Option Name
  target formats (Some onto) = used_as names role.Target onto.word
  target formats None = find (fits (divided formats)) names

  -- its shape, where it is free
  abbrev pub free_shape : Name → Option (List Span)
  free_shape n = if n.free then meaning_shape n.meaning else None

  abbrev pub target_shape : List FormatTree → Option Spot → Option (List Span)
  target_shape formats onto = option_and_then free_shape (target formats onto)

  -- no arrangement fits, and none is broken
  abbrev pub nothing_fits : List FormatTree → Bool
  nothing_fits formats = not (list_any (λ n. is_broken n || fits (divided formats) n) names)

  abbrev pub first_breach : List Spot → List MapRefusal
  first_breach [] = []
  first_breach (first ∷ rest) = breach NoArrangement first.at ∷ []

  -- the rank of the arrangement in ONTO, or that there is none that fits
  unfoldable pub target_breaches : List Spot → List FormatTree → Option Spot → List MapRefusal
  target_breaches distributees formats (Some onto) = count_differs (divided formats) onto (shape_of names role.Target onto.word)
  target_breaches distributees formats None = if nothing_fits formats then first_breach distributees else []

  -- another number of formats than a distributee has dimensions
  abbrev pub distributee_breaches : ℕ → Spot → List MapRefusal
  distributee_breaches formats distributee = count_differs formats distributee (shape_of names role.Mapped distributee.word)

  unfoldable pub distribute_breaches : ItemTree → List MapRefusal
  distribute_breaches (Distribute distributees formats onto) =
      flat_map (distributee_breaches (length formats)) distributees ++ target_breaches distributees formats onto
  distribute_breaches item = []
