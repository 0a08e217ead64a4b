-- How the dimensions of a distributee are cut.
use Rattle.std.specs.Prelude.{ℕ, List, Option, Some, None, slice_get, slice_index_or}
use Rattle.hpf_dist.specs.Axis.{Divided}
use Rattle.hpf_dist.specs.Condition.{HasSmallNumbers, Suits}
use Rattle.hpf_dist.specs.declared.format.Format.{Format}
use Rattle.hpf_own.specs.declared.image.Cut.{Cut}
use Rattle.hpf_own.specs.declared.image.Cut.TheVariants.{Whole, Over}
use Rattle.hpf_syntax.specs.Plain.{FormatTree, Star, Block, Cyclic, GenBlock, Indirect}
use Rattle.hpf_map.specs.declared.name.Span.{Span}
use Rattle.hpf_map.specs.Alignments.{no_span}
use Rattle.hpf_map.specs.Dealing.{Dealt, over, target_at, format_at}
use Rattle.hpf_map.specs.Shapes.{extent}

-- a dimension that is divided so over a dimension of the arrangement
abbrev pub axis_of : Span → Span → Format → Divided
axis_of s p format = record { low = s.low; high = s.high; procs = extent p; format = format }

-- A format that divides a dimension is there, and what it asks for is met. (BLOCK without a width asks for nothing.)
abbrev pub IsMet : ℕ → ℕ → Option Format → Type 0
IsMet d n None = ⊥
IsMet d n (Some format) = HasSmallNumbers format × Suits d n format

abbrev pub MeetsAll : FormatTree → ℕ → ℕ → Option Format → Type 0
MeetsAll (Star at) d n format = Unit {0}
MeetsAll (Block at None) d n format = Unit {0}
MeetsAll (Block at (Some width)) d n format = IsMet d n format
MeetsAll (Cyclic at width) d n format = IsMet d n format
MeetsAll (GenBlock at lengths) d n format = IsMet d n format
MeetsAll (Indirect at places) d n format = IsMet d n format

module _ (dealt : Dealt) (spans : List Span) where
  abbrev pub cut_with : Option Format → ℕ → Cut
  cut_with None k = Whole
  cut_with (Some format) k = Over (over dealt.formats k) (axis_of (slice_index_or spans k no_span) (target_at dealt spans k) format)

  -- A dimension is whole, or is divided over the dimension of the arrangement that its format takes.
  abbrev pub cut_at : ℕ → Cut
  cut_at k = cut_with (format_at dealt spans k) k

  abbrev pub MeetsOf : Option FormatTree → ℕ → Type 0
  MeetsOf None k = Unit {0}
  MeetsOf (Some format) k = MeetsAll format (extent (slice_index_or spans k no_span)) (extent (target_at dealt spans k)) (format_at dealt spans k)

  -- all formats are free, and what they ask for is met
  abbrev pub AreMet : Type 0
  AreMet = (k : ℕ) → MeetsOf (slice_get dealt.formats k) k
