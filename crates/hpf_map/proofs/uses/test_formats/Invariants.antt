use Rattle.std.proofs.Common.{◌≡◌, map, take}
use Rattle.std.specs.List.{flat_map}
use Rattle.hpf_syntax.specs.Plain.{format_tree}
use Rattle.hpf_map.specs.Found.{least_with}
use Rattle.hpf_map.specs.Uses.{format_name_breaches}
use Rattle.hpf_map.proofs.uses.test_formats.Given as goal

abbrev pub invariant-loop-format : goal.invariant-loop-format
invariant-loop-format l =
    l.breaches ≡ least_with l.initial.breaches (flat_map (format_name_breaches l.names) (map format_tree (take l.format-index l.formats)))
