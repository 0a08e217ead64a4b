-- The lines of a pipeline (this project defines them).
use Rattle.std.specs.Prelude.{ℕ, List, [], ◌∷◌, ◌++◌, drop, Bool, true, false, ◌&&◌, Option, Some, None}
use Rattle.std.specs.List.{flat_map}
use Rattle.hpf_lex.specs.declared.refusal.MapRefusal.{MapRefusal}
use Rattle.hpf_syntax.specs.declared.tree.Spot.{Spot}
use Rattle.hpf_syntax.specs.Plain.{ItemTree, Input, Stage}
use Rattle.hpf_map.specs.declared.constraint.Constraint.TheVariants.{Limit, Pipeline}
use Rattle.hpf_map.specs.declared.name.Name.{Name}
use Rattle.hpf_map.specs.declared.program.Need.{Need}
use Rattle.hpf_map.specs.declared.program.Need.TheVariants as need
use Rattle.hpf_map.specs.declared.role.Role.TheVariants.{Array}
use Rattle.hpf_map.specs.declared.way.Way.{Way}
use Rattle.hpf_map.specs.Constraint.{breach, breach_if, breaches_at}
use Rattle.hpf_map.specs.Places.{place_behind}
use Rattle.hpf_map.specs.Ways.{ways_of, used_place, has_unmapped_base}

-- the array of an INPUT line
abbrev pub input_of : ItemTree → List Spot
input_of (Input at name buffers op) = name ∷ []
input_of item = []

abbrev pub inputs : List ItemTree → List Spot
inputs items = flat_map input_of items

-- the array of an INPUT or a STAGE line
abbrev pub line_of : ItemTree → List Spot
line_of (Input at name buffers op) = name ∷ []
line_of (Stage at name permute buffers op) = name ∷ []
line_of item = []

abbrev pub lines : List ItemTree → List Spot
lines items = flat_map line_of items

-- no more lines than this
abbrev pub max_lines : ℕ
max_lines = 16

abbrev pub first_spot_breach : List Spot → List MapRefusal
first_spot_breach [] = []
first_spot_breach (spot ∷ spots) = breach Limit spot.at ∷ []

abbrev pub asks_for_input : Need → Bool
asks_for_input need.Mapping = false
asks_for_input need.Pipeline = true

abbrev pub is_none_of : List Spot → Bool
is_none_of [] = true
is_none_of (spot ∷ spots) = false

module _ (names : List Name) (ways : List Way) where
  -- the ultimate base of the array isn't distributed
  abbrev pub base_breaches : Spot → List MapRefusal
  base_breaches spot = breaches (used_place names Array spot.word) where
    breaches : Option ℕ → List MapRefusal
    breaches None = []
    breaches (Some n) = breach_if (has_unmapped_base ways n) Pipeline spot.at

-- A missing INPUT where one is needed; a second one; an array that isn't mapped; and lines above the limit.
unfoldable pub pipeline_breaches : Need → List Name → List ItemTree → List MapRefusal
pipeline_breaches need names items =
    breach_if (asks_for_input need && is_none_of (inputs items)) Pipeline (place_behind items)
    ++ breaches_at Pipeline (drop 1 (inputs items))
    ++ flat_map (base_breaches names (ways_of names items)) (lines items)
    ++ first_spot_breach (drop max_lines (lines items))
