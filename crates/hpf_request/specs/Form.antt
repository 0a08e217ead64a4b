-- The form of a run: the array of the first stage, and the elements that each processor holds of it, shadows included.
use Rattle.std.specs.Prelude.{◌≡◌, ◌-◌, ℕ, Bool, List, [], map, filter, length, slice_get, slice_index_or, Some}
use Rattle.std.specs.List.{range_with_len}
use Rattle.hpf_map.specs.declared.program.Stage.{Stage}
use Rattle.hpf_map.specs.Program.{PlainProgram, IsProgram}
use Rattle.hpf_num.specs.Run.{extent}
use Rattle.hpf_own.specs.Held.{is_held}
use Rattle.hpf_own.specs.Mapping.{PlainMapping}
use Rattle.hpf_own.specs.Owners.{numbers}
use Rattle.hpf_own.specs.Space.{indices}
use Rattle.hpf_syntax.specs.Plain.{ItemTree}

-- the extents of an array, and for each processor the places of the elements that it holds, counted from 1, in
-- element order
pub record Form : Type 0 where
  pub extents : List ℕ
  pub parts : List (List ℕ)

-- whether a processor holds the element at a place
abbrev pub holds_place : PlainMapping → ℕ → ℕ → Bool
holds_place m p place = is_held m p (slice_index_or (indices m.bounds) (place - 1) [])

-- the places of the elements that a processor holds
abbrev pub places_of : PlainMapping → ℕ → List ℕ
places_of m p = filter (holds_place m p) (range_with_len 1 (length (indices m.bounds)))

-- the form of an array that is mapped so
abbrev pub form_of : PlainMapping → Form
form_of m = record { extents = map extent m.bounds; parts = map (places_of m) (numbers m.procs) }

-- The form is that of statements: that of the first stage of their program.
pub record IsFormOf (items : List ItemTree) (form : Form) : Type 0 where
  pub program : PlainProgram
  pub is_program : IsProgram items program
  pub stage : Stage
  pub first : slice_get program.stages 0 ≡ Some stage
  pub form_is : form ≡ form_of stage.mapping
