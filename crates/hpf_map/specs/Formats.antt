-- What is asked of the format of one dimension (High Performance Fortran 2.0, Data Mapping, DISTRIBUTE; for GEN_BLOCK and
-- INDIRECT after its Approved Extensions, as this project takes them). Each condition is tested where all that it speaks
-- of is there.
use Rattle.std.specs.Prelude.{ℕ, List, [], ◌++◌, length, map, Bool, false, not, ◌&&◌, ◌==◌, Option, Some, None, option_map, option_and_then, ℤ, pos, ◌*ℤ◌, int_lt, int_le, nat_lt}
use Rattle.std.specs.List.{list_any, sum}
use Rattle.hpf_lex.specs.declared.refusal.MapRefusal.{MapRefusal}
use Rattle.hpf_num.specs.Run.{or_zero}
use Rattle.hpf_dist.specs.Axis.{before}
use Rattle.hpf_dist.specs.Owner.{even_block}
use Rattle.hpf_dist.specs.declared.format.Format.{Format}
use Rattle.hpf_dist.specs.declared.format.Format.TheVariants as deals
use Rattle.hpf_syntax.specs.Plain.{FormatTree, Star, Block, Cyclic, GenBlock, Indirect}
use Rattle.hpf_map.specs.declared.constraint.Constraint.TheVariants.{BlockTooSmall, WidthZero, LengthCount, NegativeLength, LengthSum, PlaceCount, PlaceValue}
use Rattle.hpf_map.specs.declared.name.Meaning.{Meaning}
use Rattle.hpf_map.specs.declared.name.Meaning.TheVariants as meaning
use Rattle.hpf_map.specs.declared.name.Name.{Name}
use Rattle.hpf_map.specs.declared.name.Span.{Span}
use Rattle.hpf_map.specs.declared.role.Role.TheVariants as role
use Rattle.hpf_map.specs.Alignments.{is_beyond}
use Rattle.hpf_map.specs.Constraint.{breach_if}
use Rattle.hpf_map.specs.Shapes.{extent}
use Rattle.hpf_map.specs.Spaces.{used_as}

-- ---- the list of a named constant

-- the values of a named constant with a shape, where it is free
abbrev pub meaning_list : Meaning → Option (List ℤ)
meaning_list meaning.Scalar = None
meaning_list (meaning.Shaped what dimensions) = None
meaning_list (meaning.Constant value) = None
meaning_list (meaning.List values) = values

-- those of the constant that a word is, where its use is free too. They count from 1 on, whatever its bounds are.
abbrev pub list_of : List Name → List ℕ → Option (List ℤ)
list_of names word = option_and_then (λ n. meaning_list n.meaning) (used_as names role.List word)

-- ---- conditions, of a width or a list, of the extent of a dimension, and of the dimension of the arrangement

-- a width below 1
abbrev pub has_no_position : Option ℤ → Bool
has_no_position None = false
has_no_position (Some m) = int_lt m (pos 1)

-- blocks of a width from 1 on, which all together are shorter than the dimension
abbrev pub falls_short : Option ℤ → Option ℕ → Option Span → Bool
falls_short None d p = false
falls_short (Some m) None p = false
falls_short (Some m) (Some d) None = false
falls_short (Some m) (Some d) (Some p) = int_le (pos 1) m && int_lt (m *ℤ pos (extent p)) (pos d)

-- another number of values than this
abbrev pub differs : Option (List ℤ) → Option ℕ → Bool
differs None n = false
differs (Some values) None = false
differs (Some values) (Some n) = not (length values == n)

abbrev pub has_negative : Option (List ℤ) → Bool
has_negative None = false
has_negative (Some values) = list_any (λ v. int_lt v (pos 0)) values

-- a length for each processor, none of which is negative, and together they are shorter than the dimension
abbrev pub lengths_fall_short : Option (List ℤ) → Option ℕ → Option Span → Bool
lengths_fall_short None d p = false
lengths_fall_short (Some values) None p = false
lengths_fall_short (Some values) (Some d) None = false
lengths_fall_short (Some values) (Some d) (Some p) =
    (length values == extent p) && not (has_negative (Some values)) && nat_lt (sum (map or_zero values)) d

-- a value outside the bounds of the dimension of the arrangement
abbrev pub has_stray : Option (List ℤ) → Option Span → Bool
has_stray None p = false
has_stray (Some values) None = false
has_stray (Some values) (Some p) = list_any (is_beyond p) values

module _ (names : List Name) where
  -- The breaches of a format whose width has this value, over a dimension of this extent and a dimension of the arrangement.
  unfoldable pub condition_breaches : FormatTree → Option ℤ → Option ℕ → Option Span → List MapRefusal
  condition_breaches (Star at) width d p = []
  condition_breaches (Block at written) width d p =
      breach_if (has_no_position width) WidthZero at ++ breach_if (falls_short width d p) BlockTooSmall at
  condition_breaches (Cyclic at written) width d p = breach_if (has_no_position width) WidthZero at
  condition_breaches (GenBlock at lengths) width d p =
      breach_if (differs (list_of names lengths.word) (option_map extent p)) LengthCount at
      ++ breach_if (has_negative (list_of names lengths.word)) NegativeLength at
      ++ breach_if (lengths_fall_short (list_of names lengths.word) d p) LengthSum at
  condition_breaches (Indirect at places) width d p =
      breach_if (differs (list_of names places.word) d) PlaceCount at
      ++ breach_if (has_stray (list_of names places.word) p) PlaceValue at

  -- ---- what it means

  -- How it deals the positions of a dimension of so many, over a dimension of the arrangement: none for `*`, which divides
  -- nothing, and where the width or the list isn't free. CYCLIC is CYCLIC(1).
  unfoldable pub format_of : FormatTree → Option ℤ → ℕ → Span → Option Format
  format_of (Star at) width d p = None
  format_of (Block at None) width d p = Some (even_block d (extent p))
  format_of (Block at (Some written)) width d p = option_map (λ m. deals.Block (or_zero m)) width
  format_of (Cyclic at None) width d p = Some (deals.Cyclic 1)
  format_of (Cyclic at (Some written)) width d p = option_map (λ m. deals.Cyclic (or_zero m)) width
  format_of (GenBlock at lengths) width d p = option_map (λ values. deals.GenBlock (map or_zero values)) (list_of names lengths.word)
  format_of (Indirect at places) width d p = option_map (λ values. deals.Indirect (map (before p.low) values)) (list_of names places.word)
