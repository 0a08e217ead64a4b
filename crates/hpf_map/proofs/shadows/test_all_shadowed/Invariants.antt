use Rattle.std.proofs.Common.{◌≡◌, take}
use Rattle.std.specs.List.{flat_map}
use Rattle.hpf_map.specs.Found.{least_with}
use Rattle.hpf_map.specs.Shadows.{shadowed_breaches}
use Rattle.hpf_map.proofs.shadows.test_all_shadowed.Given as goal

abbrev pub invariant-loop-spot : goal.invariant-loop-spot
invariant-loop-spot l =
    l.breaches ≡ least_with l.initial.breaches (flat_map (shadowed_breaches l.names l.widths) (take l.spot-index l.spots))
