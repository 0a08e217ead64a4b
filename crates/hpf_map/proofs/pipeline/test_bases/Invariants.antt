use Rattle.std.proofs.Common.{◌≡◌, take}
use Rattle.std.specs.List.{flat_map}
use Rattle.hpf_map.specs.Found.{least_with}
use Rattle.hpf_map.specs.Pipeline.{base_breaches}
use Rattle.hpf_map.proofs.pipeline.test_bases.Given as goal

abbrev pub invariant-loop-spot : goal.invariant-loop-spot
invariant-loop-spot l = l.breaches ≡ least_with l.initial.breaches (flat_map (base_breaches l.names l.ways) (take l.spot-index l.lines))
