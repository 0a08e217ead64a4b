use Rattle.std.proofs.Common.{◌≡◌, take, map}
use Rattle.hpf_syntax.specs.Plain.{item_tree}
use Rattle.hpf_map.specs.Dealing.{formats_breaches}
use Rattle.hpf_map.specs.Found.{least_with}
use Rattle.hpf_map.specs.Paired.{each_with}
use Rattle.hpf_map.proofs.dealing.test_all_formats.Given as goal

abbrev pub invariant-loop-k : goal.invariant-loop-k
invariant-loop-k l = l.breaches ≡ least_with l.initial.breaches (each_with (formats_breaches l.names) (map item_tree (take l.k l.items)) l.widths)
