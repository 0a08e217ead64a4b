use Rattle.std.specs.Prelude.{◌≡◌, map, take}
use Rattle.hpf_map.specs.Composed.{composed}
use Rattle.hpf_map.proofs.compose.all_composed.Given as goal

abbrev pub invariant-loop-image : goal.invariant-loop-image
invariant-loop-image l = l.images.items ≡ map (composed l.array l.first) (take l.image-index l.second)
