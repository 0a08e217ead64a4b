use Rattle.std.proofs.Common.{◌≡◌, map, take}
use Rattle.std.specs.List.{flat_map}
use Rattle.hpf_syntax.specs.Plain.{format_tree}
use Rattle.hpf_map.specs.Expressions.{format_breaches}
use Rattle.hpf_map.specs.Found.{least_with}
use Rattle.hpf_map.specs.Widths.{format_width}
use Rattle.hpf_map.proofs.format_widths.read_widths.Given as goal

abbrev pub invariant-loop-format : goal.invariant-loop-format
invariant-loop-format l = record {
  values : l.values.items ≡ map (format_width l.scope) (map format_tree (take l.format-index l.formats));
  breaches : l.breaches ≡ least_with l.initial.breaches (flat_map (format_breaches l.scope) (map format_tree (take l.format-index l.formats)));
}
