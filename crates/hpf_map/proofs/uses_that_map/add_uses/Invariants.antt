use Rattle.std.proofs.Common.{◌≡◌, ◌++◌, take}
use Rattle.std.specs.List.{filter_map}
use Rattle.hpf_map.specs.Ways.{use_of}
use Rattle.hpf_map.proofs.uses_that_map.add_uses.Given as goal

abbrev pub invariant-loop-spot : goal.invariant-loop-spot
invariant-loop-spot l = l.uses.items ≡ l.initial.uses.items ++ filter_map (use_of l.names l.role l.way) (take l.spot-index l.spots)
