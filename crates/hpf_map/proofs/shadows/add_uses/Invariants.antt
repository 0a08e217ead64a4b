use Rattle.std.proofs.Common.{◌≡◌, ◌++◌, take}
use Rattle.std.specs.List.{filter_map}
use Rattle.hpf_map.specs.Shadows.{shadow_use}
use Rattle.hpf_map.proofs.shadows.add_uses.Given as goal

abbrev pub invariant-loop-spot : goal.invariant-loop-spot
invariant-loop-spot l = l.uses.items ≡ l.initial.uses.items ++ filter_map (shadow_use l.names l.statement) (take l.spot-index l.spots)
