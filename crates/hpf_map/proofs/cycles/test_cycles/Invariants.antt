use Rattle.std.proofs.Common.{◌≡◌, take}
use Rattle.std.specs.List.{flat_map}
use Rattle.hpf_map.specs.Found.{least_with}
use Rattle.hpf_map.specs.Ways.{cycle_breaches}
use Rattle.hpf_map.proofs.cycles.test_cycles.Given as goal

abbrev pub invariant-loop-used : goal.invariant-loop-used
invariant-loop-used l = l.breaches ≡ least_with l.initial.breaches (flat_map (cycle_breaches l.ways) (take l.used-index l.first))
