use Rattle.std.proofs.Common.{◌≡◌, map, take}
use Rattle.hpf_dist.specs.Axis.{before}
use Rattle.hpf_map.proofs.cuts.places.Given as goal

abbrev pub invariant-loop-value : goal.invariant-loop-value
invariant-loop-value l = l.places.items ≡ map (before l.low) (take l.value-index l.values)
