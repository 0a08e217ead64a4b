-- The values of the widths in the formats of a DISTRIBUTE, where each is free.
use Rattle.std.specs.Prelude.{List, [], ◌∷◌, map, Option, Some, None, ℤ}
use Rattle.hpf_syntax.specs.Plain.{Tree, FormatTree, Star, Block, Cyclic, GenBlock, Indirect, ItemTree, Distribute}
use Rattle.hpf_map.specs.declared.name.Name.{Name}
use Rattle.hpf_map.specs.Declarations.{threaded, names_after}
use Rattle.hpf_map.specs.Values.{value}

module _ (before : List Name) where
  -- the value of an expression, if there is one
  abbrev pub maybe_value : Option Tree → Option ℤ
  maybe_value None = None
  maybe_value (Some e) = value before e

  -- the value of the width of a format; none where no width is written
  unfoldable pub format_width : FormatTree → Option ℤ
  format_width (Star at) = None
  format_width (Block at width) = maybe_value width
  format_width (Cyclic at width) = maybe_value width
  format_width (GenBlock at lengths) = None
  format_width (Indirect at places) = None

  -- those of a statement, format by format; nothing of one that isn't a DISTRIBUTE
  abbrev pub statement_widths : ItemTree → Option (List (Option ℤ))
  statement_widths (Distribute distributees formats onto) = Some (map format_width formats)
  statement_widths item = None

-- the same of each statement, behind the names that are declared before it
unfoldable pub all_widths : List ItemTree → List (Option (List (Option ℤ)))
all_widths items = threaded names_after (λ before item. statement_widths before item ∷ []) [] items
