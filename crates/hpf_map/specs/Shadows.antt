-- Which arrays have a shadow, and by which SHADOW (High Performance Fortran 2.0, Approved Extensions for Data Mapping, SHADOW;
-- this project has no shadow of a template). A name is its place among the declared ones, from 0.
use Rattle.std.specs.Prelude.{ℕ, ◌+◌, List, [], ◌∷◌, ◌++◌, length, find, replicate, Bool, true, false, ◌==◌, Option, Some, None, is_some, option_map}
use Rattle.std.specs.List.{flat_map, filter_map}
use Rattle.hpf_lex.specs.declared.refusal.MapRefusal.{MapRefusal}
use Rattle.hpf_own.specs.KeptLists.{no_width}
use Rattle.hpf_own.specs.declared.widths.Width.{Width}
use Rattle.hpf_syntax.specs.declared.tree.Spot.{Spot}
use Rattle.hpf_syntax.specs.Plain.{ItemTree, Shadow}
use Rattle.hpf_map.specs.declared.constraint.Constraint.TheVariants as constraint
use Rattle.hpf_map.specs.declared.name.Meaning.{Meaning}
use Rattle.hpf_map.specs.declared.name.Meaning.TheVariants as meaning
use Rattle.hpf_map.specs.declared.name.Name.{Name}
use Rattle.hpf_map.specs.declared.name.Space.TheVariants as space
use Rattle.hpf_map.specs.declared.role.Role.TheVariants.{Array, Mapped}
use Rattle.hpf_map.specs.declared.shadows.ShadowUse.{ShadowUse}
use Rattle.hpf_map.specs.Constraint.{breach_if}
use Rattle.hpf_map.specs.Declarations.{threaded}
use Rattle.hpf_map.specs.Distributions.{count_differs}
use Rattle.hpf_map.specs.Paired.{at_place}
use Rattle.hpf_map.specs.Spaces.{used_as, shape_of}
use Rattle.hpf_map.specs.Ways.{used_place}
use Rattle.hpf_map.specs.ShadowWidths.{all_shadow_widths}

-- ---- names in SHADOW

abbrev pub is_template : Option Name → Bool
is_template None = false
is_template (Some name) = by name.meaning where
  by : Meaning → Bool
  by (meaning.Shaped space.Template dimensions) = true
  by other = false

module _ (names : List Name) where
  -- a template, or another number of widths than an array has dimensions
  abbrev pub shadowed_breaches : ℕ → Spot → List MapRefusal
  shadowed_breaches widths spot =
      breach_if (is_template (used_as names Mapped spot.word)) constraint.Shadow spot.at
      ++ count_differs widths spot (shape_of names Array spot.word)

  unfoldable pub shadow_breaches : ItemTree → List MapRefusal
  shadow_breaches (Shadow shadowed widths) = flat_map (shadowed_breaches (length widths)) shadowed
  shadow_breaches item = []

  -- a use of an array, where neither the use nor the name has a breach, in the statement with this number
  abbrev pub shadow_use : ℕ → Spot → Option ShadowUse
  shadow_use k spot = option_map (λ n. record { name = n; at = spot.at; statement = k }) (used_place names Array spot.word)

  unfoldable pub statement_shadow_uses : ℕ → ItemTree → List ShadowUse
  statement_shadow_uses k (Shadow shadowed widths) = filter_map (shadow_use k) shadowed
  statement_shadow_uses k item = []

  -- the uses of these statements, of which the first has this number
  abbrev pub shadow_uses_from : ℕ → List ItemTree → List ShadowUse
  shadow_uses_from k [] = []
  shadow_uses_from k (item ∷ items) = statement_shadow_uses k item ++ shadow_uses_from (k + 1) items

  -- all uses of arrays in SHADOW, in the order of the text
  abbrev pub shadow_uses : List ItemTree → List ShadowUse
  shadow_uses items = shadow_uses_from 0 items

-- ---- the SHADOW that counts

-- the statement with the first of these uses of a name
abbrev pub first_among : List ShadowUse → ℕ → Option ℕ
first_among uses n = option_map (λ used. used.statement) (find (λ used. used.name == n) uses)

-- a use of an array that an earlier one shadows
abbrev pub again_breaches : List ShadowUse → ShadowUse → List MapRefusal
again_breaches earlier used = breach_if (is_some (first_among earlier used.name)) constraint.Shadow used.at

-- The widths of an array with so many dimensions, by the statement with the first SHADOW of it: those that this gives, where
-- they are free, and no width where there is none.
abbrev pub widths_by : List ItemTree → ℕ → Option ℕ → Option (List Width)
widths_by items rank None = Some (replicate rank no_width)
widths_by items rank (Some statement) = at_place statement (all_shadow_widths items)

module _ (names : List Name) (items : List ItemTree) where
  unfoldable pub shadowed_twice_breaches : List MapRefusal
  shadowed_twice_breaches = threaded (λ earlier used. earlier ++ used ∷ []) again_breaches [] (shadow_uses names items)

  -- all breaches of the names in SHADOW
  unfoldable pub shadows_breaches : List MapRefusal
  shadows_breaches = flat_map (shadow_breaches names) items ++ shadowed_twice_breaches

  -- the statement with the first SHADOW of an array
  unfoldable pub first_shadow : ℕ → Option ℕ
  first_shadow n = first_among (shadow_uses names items) n

  -- the widths of an array with so many dimensions
  unfoldable pub shadow_at : (array rank : ℕ) → Option (List Width)
  shadow_at n rank = widths_by items rank (first_shadow n)
