use Rattle.std.proofs.Common.{take}
use Rattle.hpf_map.specs.Ranges.{HasRange}
use Rattle.hpf_map.proofs.name.range_of.Given as goal

abbrev pub invariant-loop-value : goal.invariant-loop-value
invariant-loop-value l = HasRange (take l.value-index l.values) l.range
