-- How names are mapped, and where one comes to by going from alignee to base (High Performance Fortran 2.0, Data Mapping,
-- ALIGN: the ultimate align target). A name is here its place among the declared ones, from 0.
use Rattle.std.specs.Prelude.{ℕ, zero, suc, ◌+◌, List, [], ◌∷◌, ◌++◌, length, fold, Bool, true, false, not, ◌&&◌, ◌==◌, Option, Some, None, is_some, option_map, if◌then◌else◌, slice_index_or, slice_set, replicate}
use Rattle.std.specs.List.{list_any, filter_map, range_with_len, position_from}
use Rattle.hpf_lex.specs.declared.refusal.MapRefusal.{MapRefusal}
use Rattle.hpf_syntax.specs.declared.tree.Spot.{Spot}
use Rattle.hpf_syntax.specs.Plain.{ItemTree, Distribute, Align}
use Rattle.hpf_map.specs.declared.constraint.Constraint.TheVariants.{MappedTwice, Cycle}
use Rattle.hpf_map.specs.declared.name.Name.{Name}
use Rattle.hpf_map.specs.declared.role.Role.{Role}
use Rattle.hpf_map.specs.declared.role.Role.TheVariants.{Array, Mapped}
use Rattle.hpf_map.specs.declared.way.Use.{Use}
use Rattle.hpf_map.specs.declared.way.Way.{Way}
use Rattle.hpf_map.specs.declared.way.Way.TheVariants.{Unmapped, Distributed, Aligned}
use Rattle.hpf_map.specs.Constraint.{breach_if}
use Rattle.hpf_map.specs.Declarations.{threaded}
use Rattle.hpf_map.specs.Known.{is_named}
use Rattle.hpf_map.specs.Spaces.{used_as}

-- ---- uses that map

module _ (names : List Name) where
  abbrev pub place_of : List ℕ → Option ℕ
  place_of word = position_from (is_named word) 0 names

  -- the place of a name that may be used so
  unfoldable pub used_place : Role → List ℕ → Option ℕ
  used_place role word = if is_some (used_as names role word) then place_of word else None

  -- a use of a name that maps it, where neither the use nor the name has a breach
  abbrev pub use_of : Role → Way → Spot → Option Use
  use_of role way spot = option_map (λ n. record { name = n; at = spot.at; way = way }) (used_place role spot.word)

  -- the uses of a statement, which has this number, that map names
  unfoldable pub statement_uses : ℕ → ItemTree → List Use
  statement_uses k (Distribute distributees formats onto) = filter_map (use_of Mapped (Distributed k)) distributees
  statement_uses k (Align alignees sources base subs) =
      filter_map (use_of Array (Aligned k (used_place Mapped base.word))) alignees
  statement_uses k item = []

  -- the uses of these statements, of which the first has this number
  abbrev pub uses_from : ℕ → List ItemTree → List Use
  uses_from k [] = []
  uses_from k (item ∷ items) = statement_uses k item ++ uses_from (k + 1) items

  -- all uses that map names, in the order of the text
  abbrev pub uses_in : List ItemTree → List Use
  uses_in items = uses_from 0 items

-- ---- the way of each name

abbrev pub way_at : List Way → ℕ → Way
way_at ways n = slice_index_or ways n Unmapped

abbrev pub is_unmapped : Way → Bool
is_unmapped Unmapped = true
is_unmapped (Distributed k) = false
is_unmapped (Aligned k base) = false

-- The first use that maps a name counts.
unfoldable pub ways_after : List Way → Use → List Way
ways_after ways used = if is_unmapped (way_at ways used.name) then slice_set ways used.name used.way else ways

-- a use that maps a name that an earlier one maps
abbrev pub mapped_breaches : List Way → Use → List MapRefusal
mapped_breaches ways used = breach_if (not (is_unmapped (way_at ways used.name))) MappedTwice used.at

abbrev pub first_use : List Way → Use → List Use
first_use ways used = if is_unmapped (way_at ways used.name) then used ∷ [] else []

module _ (names : List Name) (items : List ItemTree) where
  abbrev pub unmapped : List Way
  unmapped = replicate (length names) Unmapped

  -- the way of each name
  unfoldable pub ways_of : List Way
  ways_of = fold ways_after unmapped (uses_in names items)

  unfoldable pub mapped_twice_breaches : List MapRefusal
  mapped_twice_breaches = threaded ways_after mapped_breaches unmapped (uses_in names items)

  -- the uses that count
  unfoldable pub first_uses : List Use
  first_uses = threaded ways_after first_use unmapped (uses_in names items)

-- ---- from alignee to base

-- whether a way leads on
abbrev pub leads_on : Way → Bool
leads_on Unmapped = false
leads_on (Distributed k) = false
leads_on (Aligned k base) = is_some base

abbrev pub step_from : ℕ → Way → ℕ
step_from n Unmapped = n
step_from n (Distributed k) = n
step_from n (Aligned k None) = n
step_from n (Aligned k (Some base)) = base

module _ (ways : List Way) where
  -- the base of a name, or the name itself where no way leads on
  abbrev pub step : ℕ → ℕ
  step n = step_from n (way_at ways n)

  -- where one comes to in so many steps
  unfoldable pub walk : ℕ → ℕ → ℕ
  walk zero n = n
  walk (suc k) n = walk k (step n)

  -- An alignee that is reached again. (One that is reached at all is reached in as many steps as there are names.)
  unfoldable pub is_on_cycle : ℕ → Bool
  is_on_cycle n = leads_on (way_at ways n) && list_any (λ k. walk k n == n) (range_with_len 1 (length ways))

  -- The end of the walk from a name, which is the ultimate base unless a way still leads on: then there is a cycle.
  abbrev pub walk_end : ℕ → ℕ
  walk_end n = walk (length ways) n

  -- a use by which a name on a cycle is aligned
  abbrev pub cycle_breaches : Use → List MapRefusal
  cycle_breaches used = breach_if (is_on_cycle used.name) Cycle used.at

  -- whether there is an ultimate base, and no directive maps it
  abbrev pub has_unmapped_base : ℕ → Bool
  has_unmapped_base n = is_unmapped (way_at ways (walk_end n))
