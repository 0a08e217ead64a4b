use Rattle.std.proofs.Common.{◌≡◌, ◌+◌, ◌*◌, ◌^◌, ◌≤◌, map}
use Rattle.std.specs.List.{range_with_len}
use Rattle.hpf_dist.specs.Sums.{sum_of_first}
use Rattle.hpf_dist.proofs.lengths.sums_of.Given as goal

abbrev pub invariant-loop-item : goal.invariant-loop-item
invariant-loop-item l = record {
  end_is : l.end ≡ sum_of_first l.items l.item-index;
  small : l.end ≤ l.item-index * 2 ^ 32;
  ends : l.ends.items ≡ map (λ k. sum_of_first l.items (k + 1)) (range_with_len 0 l.item-index);
}
