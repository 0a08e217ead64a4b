-- What the lines of a pipeline say, where these names are declared before them (this project defines them).
use Rattle.std.specs.Prelude.{List, [], length, map, true, false, Option, Some, None, option_map, option_to_list}
use Rattle.hpf_syntax.specs.Plain.{Tree, ItemTree, Input, Stage}
use Rattle.hpf_map.specs.declared.lines.Entries.{Entries}
use Rattle.hpf_map.specs.declared.lines.Line.{Line}
use Rattle.hpf_map.specs.declared.lines.Number.{Number}
use Rattle.hpf_map.specs.declared.name.Name.{Name}
use Rattle.hpf_map.specs.Declarations.{threaded, names_after}
use Rattle.hpf_map.specs.Gathered.{all_of}
use Rattle.hpf_map.specs.Values.{value, place_of}

module _ (before : List Name) where
  -- the entries of PERMUTE: how many are written, and their values, where each is free
  abbrev pub entries_of : List Tree → Entries
  entries_of es = record { count = length es; values = all_of (map (value before) es) }

  -- the number in BUFFERS
  abbrev pub number_of : Tree → Number
  number_of e = record { at = place_of e; value = value before e }

  -- what a statement says that is an INPUT or a STAGE line
  abbrev pub statement_line : ItemTree → Option Line
  statement_line (Input at name buffers op) =
      Some (record { follows = false; array = name; permute = None; buffers = option_map number_of buffers })
  statement_line (Stage at name permute buffers op) =
      Some (record { follows = true; array = name; permute = option_map entries_of permute; buffers = option_map number_of buffers })
  statement_line item = None

-- what all lines say, each behind the names that are declared before it
unfoldable pub all_lines : List ItemTree → List Line
all_lines items = threaded names_after (λ before item. option_to_list (statement_line before item)) [] items
