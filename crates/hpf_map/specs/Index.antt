-- How names are found by their words.
use Rattle.std.specs.Prelude.{◌≡◌, ℕ, List}
use Rattle.std.specs.BTreeMap.{BTreeMap, get}
use Rattle.std.specs.List.{position_from}
use Rattle.std.specs.Ordering.{nat_cmp}
use Rattle.std.specs.Cmp.Lexicographic.{slice_cmp}
use Rattle.hpf_map.specs.declared.name.Name.{Name}
use Rattle.hpf_map.specs.Known.{is_named}

-- each word is found at the place of the first name that has it
pub record HasPlaces (names : List Name) (places : BTreeMap (List ℕ) ℕ) : Type 0 where
  pub place : (word : List ℕ) → get (slice_cmp nat_cmp) places word ≡ position_from (is_named word) 0 names
