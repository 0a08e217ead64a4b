-- The lines of a pipeline, each beside those in front of it: STAGE, PERMUTE and BUFFERS (this project defines them).
use Rattle.std.specs.Prelude.{ℕ, zero, suc, ◌-◌, List, [], ◌∷◌, ◌++◌, length, Bool, true, false, not, ◌&&◌, ◌||◌, ◌==◌, Option, Some, None, option_and_then, if◌then◌else◌, slice_index_or, ℤ, pos, int_lt, unsigned_abs}
use Rattle.std.specs.Ordering.{int_eq}
use Rattle.std.specs.List.{list_any}
use Rattle.hpf_lex.specs.declared.refusal.MapRefusal.{MapRefusal}
use Rattle.hpf_syntax.specs.declared.tree.Spot.{Spot}
use Rattle.hpf_syntax.specs.Plain.{ItemTree}
use Rattle.hpf_map.specs.declared.constraint.Constraint.TheVariants.{Limit, Pipeline}
use Rattle.hpf_map.specs.declared.lines.Entries.{Entries}
use Rattle.hpf_map.specs.declared.lines.Line.{Line}
use Rattle.hpf_map.specs.declared.lines.Number.{Number}
use Rattle.hpf_map.specs.declared.name.Name.{Name}
use Rattle.hpf_map.specs.declared.name.Span.{Span}
use Rattle.hpf_map.specs.declared.role.Role.TheVariants.{Array}
use Rattle.hpf_map.specs.declared.stages.Behind.{Behind}
use Rattle.hpf_map.specs.Constraint.{breach_if}
use Rattle.hpf_map.specs.Declarations.{threaded}
use Rattle.hpf_map.specs.Distributions.{count_differs}
use Rattle.hpf_map.specs.Lines.{all_lines}
use Rattle.hpf_map.specs.Alignments.{no_span}
use Rattle.hpf_map.specs.Shapes.{extent}
use Rattle.hpf_map.specs.Spaces.{shape_of}

-- ---- what stands in front of a line

abbrev pub nothing_behind : Behind
nothing_behind = record { led = false; array = None }

-- whether an INPUT line does, and the array of the line before
abbrev pub after_line : Behind → Line → Behind
after_line behind line = record { led = behind.led || not line.follows; array = Some line.array.word }

-- ---- BUFFERS

-- how many buffers a channel may have
abbrev pub max_buffers : ℕ
max_buffers = 8

abbrev pub is_outside : Option ℤ → Bool
is_outside None = false
is_outside (Some v) = int_lt v (pos 1) || int_lt (pos max_buffers) v

abbrev pub buffers_breaches : Option Number → List MapRefusal
buffers_breaches None = []
buffers_breaches (Some n) = breach_if (is_outside n.value) Limit n.at

-- ---- PERMUTE

-- whether each number from 1 to this one is among the values
unfoldable pub has_each : List ℤ → ℕ → Bool
has_each values zero = true
has_each values (suc d) = list_any (int_eq (pos (suc d))) values && has_each values d

-- whether the values are the numbers from 1 to the rank, in some order
abbrev pub permutes : ℕ → List ℤ → Bool
permutes rank values = length values == rank && has_each values rank

-- the extent of a dimension, which counts from 1, of the array before
abbrev pub extent_by : List Span → ℤ → ℕ
extent_by before v = extent (slice_index_or before (unsigned_abs v - 1) no_span)

-- whether the extents of an array are those of these dimensions of the array before
unfoldable pub are_extents : List Span → List Span → List ℤ → Bool
are_extents before [] values = length values == 0
are_extents before (s ∷ own) [] = false
are_extents before (s ∷ own) (v ∷ values) = extent s == extent_by before v && are_extents before own values

-- whether they are those of its dimensions in order
unfoldable pub are_same_extents : List Span → List Span → Bool
are_same_extents before [] = length before == 0
are_same_extents [] (s ∷ own) = false
are_same_extents (b ∷ before) (s ∷ own) = extent s == extent b && are_same_extents before own

-- Whether these entries are a permutation of the dimensions, by which the extents agree with the array before. Without its
-- shape the extents aren't tested.
abbrev pub agree_by : Option (List Span) → List Span → List ℤ → Bool
agree_by None own values = permutes (length own) values
agree_by (Some before) own values =
    permutes (length own) values && (length before == length own && are_extents before own values)

-- whether the dimensions in order agree with the array before, where that is tested
abbrev pub agree_in_order : Option (List Span) → List Span → Bool
agree_in_order None own = true
agree_in_order (Some before) own = are_same_extents before own

-- the same of entries, where each is free
abbrev pub agree_where_free : Option (List Span) → List Span → Option (List ℤ) → Bool
agree_where_free before own None = true
agree_where_free before own (Some values) = agree_by before own values

-- whether an array agrees with the array before
abbrev pub agrees : Option (List Span) → List Span → Option Entries → Bool
agrees before own None = agree_in_order before own
agrees before own (Some entries) = agree_where_free before own entries.values

-- another number of entries than the array has dimensions
abbrev pub entries_breaches : List Span → Spot → Option Entries → List MapRefusal
entries_breaches own array None = []
entries_breaches own array (Some entries) = count_differs entries.count array (Some own)

-- of an array of this shape, where that is free
abbrev pub permute_breaches : Option (List Span) → Option (List Span) → Line → List MapRefusal
permute_breaches before None line = []
permute_breaches before (Some own) line =
    entries_breaches own line.array line.permute
    ++ breach_if (not (agrees before own line.permute)) Pipeline line.array.at

-- ---- lines

module _ (names : List Name) where
  -- the shape of the array of the line before, where there is one
  abbrev pub shape_behind : Option (List ℕ) → Option (List Span)
  shape_behind word = option_and_then (shape_of names Array) word

  -- what is tested of a STAGE line: that an INPUT line stands before it, and PERMUTE with the extents
  abbrev pub follower_breaches : Behind → Line → List MapRefusal
  follower_breaches behind line =
      breach_if (not behind.led) Pipeline line.array.at
      ++ permute_breaches (shape_behind behind.array) (shape_of names Array line.array.word) line

  unfoldable pub line_breaches : Behind → Line → List MapRefusal
  line_breaches behind line =
      (if line.follows then follower_breaches behind line else []) ++ buffers_breaches line.buffers

  unfoldable pub stages_breaches : List ItemTree → List MapRefusal
  stages_breaches items = threaded after_line line_breaches nothing_behind (all_lines items)
