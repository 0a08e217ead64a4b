-- What a mapping text without a breach gives: the mappings of its arrays, its stages and its counts.
use Rattle.std.specs.Prelude.{ℕ, ◌≡◌, ◌+◌, ◌≤◌, List, length, map, filter, min, All, Bool, true, false, Option, Some, None, option_and_then, slice_get, ℤ, pos, unsigned_abs}
use Rattle.std.specs.List.{AllZip, range_with_len}
use Rattle.hpf_own.specs.Correspondence.{ExtentsAgree}
use Rattle.hpf_own.specs.Mapping.{PlainMapping}
use Rattle.hpf_syntax.specs.Plain.{ItemTree}
use Rattle.hpf_map.specs.declared.lines.Entries.{Entries}
use Rattle.hpf_map.specs.declared.lines.Line.{Line}
use Rattle.hpf_map.specs.declared.lines.Number.{Number}
use Rattle.hpf_map.specs.declared.name.Meaning.{Meaning}
use Rattle.hpf_map.specs.declared.name.Meaning.TheVariants as meaning
use Rattle.hpf_map.specs.declared.name.Name.{Name}
use Rattle.hpf_map.specs.declared.name.Space.{Space}
use Rattle.hpf_map.specs.declared.name.Space.TheVariants as space
use Rattle.hpf_map.specs.declared.program.Counts.{Counts}
use Rattle.hpf_map.specs.declared.program.Stage.{Stage}
use Rattle.hpf_map.specs.declared.role.Role.TheVariants.{Array}
use Rattle.hpf_map.specs.declared.way.Way.{Way}
use Rattle.hpf_map.specs.declared.way.Way.TheVariants as way
use Rattle.hpf_map.specs.Layers.{names_of}
use Rattle.hpf_map.specs.Lines.{all_lines}
use Rattle.hpf_map.specs.Ownership.{IsMappingOf}
use Rattle.hpf_map.specs.Paired.{at_place}
use Rattle.hpf_map.specs.Pipeline.{lines}
use Rattle.hpf_map.specs.Stages.{max_buffers}
use Rattle.hpf_map.specs.Ways.{ways_of, way_at, walk_end, place_of, used_place}

-- ---- counts

-- whether a meaning is that of an array, of a template or of an arrangement
abbrev pub is_of : Space → Meaning → Bool
is_of space.Array (meaning.Shaped space.Array dimensions) = true
is_of space.Template (meaning.Shaped space.Template dimensions) = true
is_of space.Arrangement (meaning.Shaped space.Arrangement dimensions) = true
is_of what other = false

-- how many names are
abbrev pub number_of : Space → List Name → ℕ
number_of what names = length (filter (λ n. is_of what n.meaning) names)

-- the number, where it has 32 bits (no text without a breach has so many names or lines)
abbrev pub counted : ℕ → ℕ
counted n = min n 4294967295

-- declared arrays, templates and arrangements, and INPUT and STAGE lines
abbrev pub counts_of : List ItemTree → Counts
counts_of items = record {
  arrays = counted (number_of space.Array (names_of items));
  templates = counted (number_of space.Template (names_of items));
  arrangements = counted (number_of space.Arrangement (names_of items));
  stages = counted (length (lines items));
}

-- ---- mappings

pub record PlainProgram : Type 0 where
  pub names : List Name
  pub mappings : List (Option PlainMapping)
  pub stages : List Stage
  pub counts : Counts

-- the mapping of a word, if it is there
abbrev pub mapping_in : PlainProgram → List ℕ → Option PlainMapping
mapping_in p word = option_and_then (λ n. at_place n p.mappings) (place_of p.names word)

-- the statement by which a way distributes a name
abbrev pub distributing : Way → Option ℕ
distributing way.Unmapped = None
distributing (way.Distributed k) = Some k
distributing (way.Aligned k base) = None

module _ (items : List ItemTree) where
  -- the ultimate base of an array, where it has one
  abbrev pub ultimate : ℕ → ℕ
  ultimate n = walk_end (ways_of (names_of items) items) n

  -- the statement that distributes it
  abbrev pub statement_for : ℕ → Option ℕ
  statement_for n = distributing (way_at (ways_of (names_of items) items) (ultimate n))

  -- the place of a word that is an array
  abbrev pub array_place : List ℕ → Option ℕ
  array_place word = used_place (names_of items) Array word

  -- The mapping of an array is there exactly where its ultimate base is distributed, and has the owners that the directives
  -- give.
  abbrev pub MapsBy : ℕ → Option ℕ → Option PlainMapping → Type 0
  MapsBy n None m = m ≡ None
  MapsBy n (Some k) None = ⊥
  MapsBy n (Some k) (Some m) = IsMappingOf (names_of items) items n (ultimate n) k m

  abbrev pub Maps : Option ℕ → Option PlainMapping → Type 0
  Maps None m = m ≡ None
  Maps (Some n) m = MapsBy n (statement_for n) m

-- the dimensions of a stage of this rank are those of PERMUTE, or without it all in order
abbrev pub HasDims : Option Entries → ℕ → List ℕ → Type 0
HasDims None rank perm = perm ≡ range_with_len 1 rank
HasDims (Some entries) rank perm = (values : List ℤ) × (entries.values ≡ Some values) × (perm ≡ map unsigned_abs values)

-- its buffers are as many as BUFFERS says, or without it two
abbrev pub HasBuffers : Option Number → ℕ → Type 0
HasBuffers None buffers = buffers ≡ 2
HasBuffers (Some n) buffers = n.value ≡ Some (pos buffers)

-- a stage has the dimensions and the buffers that its line says, of which there are at least one and at most eight
pub record HasLine (line : Line) (stage : Stage) : Type 0 where
  pub dims : HasDims line.permute (length stage.mapping.bounds) stage.perm
  pub buffers : HasBuffers line.buffers stage.buffers
  pub some : 1 ≤ stage.buffers
  pub few : stage.buffers ≤ max_buffers

-- The extents of each stage but the first agree with those of the stage before, by its dimensions.
abbrev pub AgreeInTurn : List Stage → Type 0
AgreeInTurn stages = (s : ℕ) (before stage : Stage) → slice_get stages s ≡ Some before → slice_get stages (s + 1) ≡ Some stage
    → ExtentsAgree before.mapping.bounds stage.mapping.bounds stage.perm

-- A program is that of a text.
pub record IsProgram (items : List ItemTree) (p : PlainProgram) : Type 0 where
  pub counts : p.counts ≡ counts_of items
  pub mappings : (word : List ℕ) → Maps items (array_place items word) (mapping_in p word)
  pub arrays : map (λ stage. stage.array) p.stages ≡ map (λ spot. spot.word) (lines items)
  pub stages : All (λ stage. Maps items (array_place items stage.array) (Some stage.mapping)) p.stages
  pub lines : AllZip HasLine (all_lines items) p.stages
  pub agree : AgreeInTurn p.stages
