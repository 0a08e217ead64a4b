-- The mapping of an array by its name (names don't differ by the case of ASCII letters, and are given in upper case
-- here).
use Rattle.std.specs.Prelude.{◌≡◌, ℕ, List, Option, Some, None, if◌then◌else◌}
use Rattle.hpf_lex.specs.Name.{is_name}
use Rattle.hpf_lex.specs.declared.refusal.MapRefusal.{MapRefusal}
use Rattle.hpf_map.specs.declared.program.Need.TheVariants.{Mapping}
use Rattle.hpf_map.specs.Program.{PlainProgram, IsProgram, mapping_in}
use Rattle.hpf_map.specs.Refusal.{refusal}
use Rattle.hpf_own.specs.Mapping.{PlainMapping}
use Rattle.hpf_syntax.specs.Plain.{ItemTree}
use Rattle.hpf_status.specs.declared.status.Status.{Status}
use Rattle.hpf_status.specs.declared.status.Status.TheVariants as status
use Rattle.hpf_status.specs.Statuses.{refusal_status}

-- the mapping of the array by a name, if it can be a name and the array is mapped
abbrev pub mapping_named : PlainProgram → List ℕ → Option PlainMapping
mapping_named program name = if is_name name then mapping_in program name else None

-- The name is that of a mapped array of statements, or of none, by their program.
pub record IsNamed (items : List ItemTree) (name : List ℕ) (mapping : Option PlainMapping) : Type 0 where
  pub program : PlainProgram
  pub is_program : IsProgram items program
  pub mapping_is : mapping ≡ mapping_named program name

-- Statements have no mapped array by a name: they are refused for what they mean, or their program has none.
pub data IsUnnamed (items : List ItemTree) (name : List ℕ) (end : Status) : Type 0 where
  Broken : (r : MapRefusal) → refusal Mapping items ≡ Some r → end ≡ refusal_status r → IsUnnamed items name end
  NoArray : refusal Mapping items ≡ None → IsNamed items name None → end ≡ status.Usage 2 → IsUnnamed items name end
