-- How arrangements are found by how many bounds they have.
use Rattle.std.specs.Prelude.{◌≡◌, ◌<◌, ℕ, List, length, Option, Some, None, slice_index_or}
use Rattle.std.specs.List.{list_any, position_from}
use Rattle.hpf_map.specs.declared.arrangements.Arrangements.{Arrangements}
use Rattle.hpf_map.specs.declared.name.Meaning.{Meaning}
use Rattle.hpf_map.specs.declared.name.Meaning.TheVariants as meaning
use Rattle.hpf_map.specs.declared.name.Name.{Name}
use Rattle.hpf_map.specs.declared.name.Space.TheVariants as space
use Rattle.hpf_map.specs.Distributions.{fits, is_broken}

-- how many bounds of an arrangement are written
abbrev pub bounds_of : Meaning → Option ℕ
bounds_of (meaning.Shaped space.Arrangement dimensions) = Some dimensions.count
bounds_of other = None

-- for each number of bounds below eight the place of the first arrangement that has so many, and whether one is broken
pub record AreOf (names : List Name) (a : Arrangements) : Type 0 where
  pub size : length a.first ≡ 8
  pub first : (c : ℕ) → c < 8 → slice_index_or a.first c None ≡ position_from (fits c) 0 names
  pub broken : a.broken ≡ list_any is_broken names
