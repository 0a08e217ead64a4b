-- The formats of a DISTRIBUTE, as definitions see them.
use Rattle.std.specs.Prelude.{map}
use Rattle.hpf_syntax.specs.Plain.{format_tree}
use Rattle.hpf_map.specs.declared.dealing.Dealing.{Dealing}
use Rattle.hpf_map.specs.Dealing.{Dealt}

abbrev pub seen : Dealing → Dealt
seen d = record { names = d.names.now; formats = map format_tree d.formats.now; widths = d.widths.now; target = d.target.now }
