-- The shadows that are found of names, and what is asked of them to map each array.
use Rattle.std.specs.Prelude.{ℕ, ◌≡◌, List, length, replicate, All, Option, Some, None, option_and_then}
use Rattle.std.specs.BTreeMap.{BTreeMap, get}
use Rattle.std.specs.Ordering.{nat_cmp}
use Rattle.hpf_own.specs.KeptLists.{no_width}
use Rattle.hpf_own.specs.Mapping.{IsSmallWidth}
use Rattle.hpf_own.specs.declared.widths.Width.{Width}
use Rattle.hpf_syntax.specs.Plain.{ItemTree}
use Rattle.hpf_map.specs.declared.name.Name.{Name}
use Rattle.hpf_map.specs.declared.name.Span.{Span}
use Rattle.hpf_map.specs.declared.shadows.ShadowUse.{ShadowUse}
use Rattle.hpf_map.specs.Layers.{names_of}
use Rattle.hpf_map.specs.Ownership.{shape_at}
use Rattle.hpf_map.specs.Paired.{at_place}
use Rattle.hpf_map.specs.Shadows.{first_among, shadow_at}

-- each name is found with the statement of the first of these uses of it
abbrev pub HasFirst : List ShadowUse → BTreeMap ℕ ℕ → Type 0
HasFirst uses first = (n : ℕ) → get nat_cmp first n ≡ first_among uses n

-- the widths that the statement gives with which a name is found
abbrev pub given_by : List (Option (List Width)) → BTreeMap ℕ ℕ → ℕ → Option (List Width)
given_by widths first n = option_and_then (λ statement. at_place statement widths) (get nat_cmp first n)

-- no width in so many dimensions, where none are given
abbrev pub or_none : ℕ → Option (List Width) → List Width
or_none rank None = replicate rank no_width
or_none rank (Some widths) = widths

-- these are the widths of an array with so many dimensions
pub record IsShadow (names : List Name) (items : List ItemTree) (array rank : ℕ) (widths : List Width) : Type 0 where
  pub is : shadow_at names items array rank ≡ Some widths
  pub size : length widths ≡ rank
  pub small : All IsSmallWidth widths

-- what is found of names gives the widths of each array
pub record AreShadows (items : List ItemTree) (widths : List (Option (List Width))) (first : BTreeMap ℕ ℕ) : Type 0 where
  pub each : (n : ℕ) (spans : List Span) → shape_at (names_of items) items n ≡ Some spans
      → IsShadow (names_of items) items n (length spans) (or_none (length spans) (given_by widths first n))
