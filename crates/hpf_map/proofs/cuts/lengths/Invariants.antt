use Rattle.std.proofs.Common.{◌≡◌, map, take}
use Rattle.hpf_num.specs.Run.{or_zero}
use Rattle.hpf_map.proofs.cuts.lengths.Given as goal

abbrev pub invariant-loop-value : goal.invariant-loop-value
invariant-loop-value l = l.lengths.items ≡ map or_zero (take l.value-index l.values)
