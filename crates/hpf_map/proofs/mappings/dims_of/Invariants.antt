use Rattle.std.proofs.Common.{◌≡◌, map, take, unsigned_abs}
use Rattle.hpf_map.proofs.mappings.dims_of.Given as goal

abbrev pub invariant-loop-value : goal.invariant-loop-value
invariant-loop-value l = l.dims.items ≡ map unsigned_abs (take l.value-index l.values)
