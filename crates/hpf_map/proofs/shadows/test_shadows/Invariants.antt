use Rattle.std.proofs.Common.{◌≡◌, take, map}
use Rattle.std.specs.List.{flat_map}
use Rattle.hpf_syntax.specs.Plain.{item_tree}
use Rattle.hpf_map.specs.Found.{least_with}
use Rattle.hpf_map.specs.Shadows.{shadow_breaches}
use Rattle.hpf_map.proofs.shadows.test_shadows.Given as goal

abbrev pub invariant-loop-item : goal.invariant-loop-item
invariant-loop-item l =
    l.breaches ≡ least_with l.initial.breaches (flat_map (shadow_breaches l.names) (map item_tree (take l.item-index l.items)))
