-- The mappings of all names, in order: those of the arrays whose ultimate bases are distributed.
use Rattle.std.specs.Prelude.{ℕ, ◌≡◌, ◌<◌, ◌≤◌, List, length, map, Option, Some, None, option_and_then, slice_get, ℤ, pos, unsigned_abs}
use Rattle.hpf_own.specs.Lists.{IsPerm}
use Rattle.hpf_own.specs.Mapping.{PlainMapping}
use Rattle.hpf_syntax.specs.declared.tree.Spot.{Spot}
use Rattle.hpf_syntax.specs.Plain.{ItemTree}
use Rattle.hpf_map.specs.declared.landings.Landing.{Landing}
use Rattle.hpf_map.specs.declared.lines.Entries.{Entries}
use Rattle.hpf_map.specs.declared.lines.Line.{Line}
use Rattle.hpf_map.specs.declared.lines.Number.{Number}
use Rattle.hpf_map.specs.declared.name.Name.{Name}
use Rattle.hpf_map.specs.declared.program.Stage.{Stage}
use Rattle.hpf_map.specs.declared.role.Role.TheVariants.{Array}
use Rattle.hpf_map.specs.declared.way.Way.TheVariants.{Distributed}
use Rattle.hpf_map.specs.Landings.{IsLanding, IsSettled}
use Rattle.hpf_map.specs.Layers.{names_of}
use Rattle.hpf_map.specs.Mapped.{IsDistributed}
use Rattle.hpf_map.specs.Paired.{at_place}
use Rattle.hpf_map.specs.Program.{ultimate, statement_for, array_place, MapsBy, Maps, HasLine}
use Rattle.hpf_map.specs.Sound.{AreSoundNames}
use Rattle.hpf_map.specs.Spaces.{fit}
use Rattle.hpf_map.specs.Stages.{max_buffers}
use Rattle.hpf_map.specs.Ways.{ways_of, way_at}

-- the name at a place, where it is a free array
abbrev pub array_at : List Name → ℕ → Option Name
array_at names n = option_and_then (fit Array) (slice_get names n)

-- entries, if there are any, that are a permutation
abbrev pub CanPermute : Option Entries → Type 0
CanPermute None = Unit {0}
CanPermute (Some entries) = (values : List ℤ) × (entries.values ≡ Some values) × IsPerm (map unsigned_abs values)

-- a number of buffers, if one is given, that a channel may have
abbrev pub CanHold : Option Number → Type 0
CanHold None = Unit {0}
CanHold (Some n) = (k : ℕ) × (n.value ≡ Some (pos k)) × (1 ≤ k) × (k ≤ max_buffers)

module _ (items : List ItemTree) where
  -- the mapping at a place, where this is the free array there
  abbrev pub MapsFor : ℕ → Option Name → Option PlainMapping → Type 0
  MapsFor n None m = m ≡ None
  MapsFor n (Some name) m = MapsBy items n (statement_for items n) m

  abbrev pub MapsAt : ℕ → Option PlainMapping → Type 0
  MapsAt n m = MapsFor n (array_at (names_of items) n) m

  pub record AreMappings (mappings : List (Option PlainMapping)) : Type 0 where
    pub size : length mappings ≡ length (names_of items)
    pub each : (n : ℕ) → n < length mappings → MapsAt n (at_place n mappings)

  -- what is asked of the landings of names, to map each array
  pub record CanMapAll (landings : List (Option Landing)) : Type 0 where
    pub sound : AreSoundNames (names_of items)
    pub landing : (n : ℕ) (l : Landing) → slice_get landings n ≡ Some (Some l) → IsLanding (names_of items) items n l.base l.statement l.images
    pub base : (n : ℕ) (l : Landing) → slice_get landings n ≡ Some (Some l) → l.base ≡ ultimate items n
    pub settled : (n k : ℕ) → n < length (names_of items) → way_at (ways_of (names_of items) items) (ultimate items n) ≡ Distributed k → IsSettled landings n
    pub distributed : (b k : ℕ) → way_at (ways_of (names_of items) items) b ≡ Distributed k → IsDistributed (names_of items) items b k

  -- a line whose array's ultimate base is distributed
  pub record IsMappedLine (spot : Spot) : Type 0 where
    pub place : ℕ
    pub statement : ℕ
    pub array : array_place items spot.word ≡ Some place
    pub distributed : statement_for items place ≡ Some statement

  -- a line that makes a stage
  pub record IsReadyLine (line : Line) : Type 0 where
    pub mapped : IsMappedLine line.array
    pub permute : CanPermute line.permute
    pub buffers : CanHold line.buffers

  -- a stage of a line
  pub record IsStageOf (line : Line) (stage : Stage) : Type 0 where
    pub array : stage.array ≡ line.array.word
    pub mapping : Maps items (array_place items line.array.word) (Some stage.mapping)
    pub said : HasLine line stage
