-- How a DISTRIBUTE deals the positions of its distributees, dimension by dimension.
use Rattle.std.specs.Prelude.{ℕ, List, [], ◌++◌, length, take, ◌==◌, Option, Some, None, option_map, unwrap_or, if◌then◌else◌, slice_get, slice_index_or, ℤ}
use Rattle.std.specs.List.{flat_map, range_with_len}
use Rattle.hpf_lex.specs.declared.refusal.MapRefusal.{MapRefusal}
use Rattle.hpf_dist.specs.declared.format.Format.{Format}
use Rattle.hpf_syntax.specs.declared.tree.Spot.{Spot}
use Rattle.hpf_syntax.specs.Plain.{FormatTree, ItemTree, Distribute}
use Rattle.hpf_map.specs.declared.name.Name.{Name}
use Rattle.hpf_map.specs.declared.name.Span.{Span}
use Rattle.hpf_map.specs.declared.role.Role.TheVariants as role
use Rattle.hpf_map.specs.Alignments.{no_span}
use Rattle.hpf_map.specs.Distributions.{divided, target_shape}
use Rattle.hpf_map.specs.Formats.{condition_breaches, format_of}
use Rattle.hpf_map.specs.Paired.{at_place}
use Rattle.hpf_map.specs.Shapes.{extent}
use Rattle.hpf_map.specs.Spaces.{shape_of}

-- The formats of a DISTRIBUTE, with what they stand on: the names of the text, the values of their widths, and the
-- dimensions of the arrangement, which are none where they aren't free or are another number than the formats divide.
pub record Dealt : Type 0 where
  pub names : List Name
  pub formats : List FormatTree
  pub widths : List (Option ℤ)
  pub target : List Span

-- the dimensions of a shape that is free and has so many
abbrev pub matching : ℕ → Option (List Span) → List Span
matching count None = []
matching count (Some spans) = if length spans == count then spans else []

-- the formats of a statement, where the values of its widths are these
abbrev pub dealing : List Name → List FormatTree → Option Spot → Option (List (Option ℤ)) → Dealt
dealing names formats onto widths = record {
  names = names;
  formats = formats;
  widths = unwrap_or widths [];
  target = matching (divided formats) (target_shape names formats onto);
}

-- The formats other than `*` take the dimensions of the arrangement in order: the dimension that is that of the format with
-- this number.
abbrev pub over : List FormatTree → ℕ → ℕ
over formats k = divided (take k formats)

module _ (dealt : Dealt) (spans : List Span) where
  -- ---- what is asked

  abbrev pub breaches_of : Option FormatTree → ℕ → List MapRefusal
  breaches_of None k = []
  breaches_of (Some format) k =
      condition_breaches dealt.names format (at_place k dealt.widths) (option_map extent (slice_get spans k))
      (slice_get dealt.target (over dealt.formats k))

  -- the breaches of the format with this number, over a distributee with these bounds
  abbrev pub breaches_at : ℕ → List MapRefusal
  breaches_at k = breaches_of (slice_get dealt.formats k) k

  -- those of all formats
  unfoldable pub dealing_breaches : List MapRefusal
  dealing_breaches = flat_map breaches_at (range_with_len 0 (length dealt.formats))

  -- ---- what it means

  -- the bounds of the dimension of the arrangement over which a dimension of the distributee is divided
  abbrev pub target_at : ℕ → Span
  target_at k = slice_index_or dealt.target (over dealt.formats k) no_span

  abbrev pub dealt_as : Option FormatTree → ℕ → Option Format
  dealt_as None k = None
  dealt_as (Some format) k = format_of dealt.names format (at_place k dealt.widths) (extent (slice_index_or spans k no_span)) (target_at k)

  -- how a dimension of the distributee is dealt; none where it isn't divided
  abbrev pub format_at : ℕ → Option Format
  format_at k = dealt_as (slice_get dealt.formats k) k

-- ---- statements

-- the breaches over a distributee with as many dimensions as there are formats, where its shape is free
abbrev pub sized_breaches : Dealt → Option (List Span) → List MapRefusal
sized_breaches dealt None = []
sized_breaches dealt (Some spans) = if length spans == length dealt.formats then dealing_breaches dealt spans else []

module _ (names : List Name) where
  -- The breaches in the formats of a DISTRIBUTE whose widths have these values: those that don't speak of the distributees,
  -- and those over each distributee.
  unfoldable pub formats_breaches : ItemTree → Option (List (Option ℤ)) → List MapRefusal
  formats_breaches (Distribute distributees formats onto) widths =
      let dealt : Dealt = dealing names formats onto widths in
      dealing_breaches dealt []
      ++ flat_map (λ distributee. sized_breaches dealt (shape_of names role.Mapped distributee.word)) distributees
  formats_breaches item widths = []
