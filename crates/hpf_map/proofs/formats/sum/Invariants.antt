use Rattle.std.proofs.Common.{◌≡◌, ◌*◌, ◌^◌, ◌≤◌, map, take}
use Rattle.std.specs.List.{sum}
use Rattle.hpf_num.specs.Run.{or_zero}
use Rattle.hpf_map.proofs.formats.sum.Given as goal

abbrev pub invariant-loop-value : goal.invariant-loop-value
invariant-loop-value l = record {
  sum_is : l.sum ≡ sum (map or_zero (take l.value-index l.values));
  small : l.sum ≤ l.value-index * 2 ^ 32;
}
