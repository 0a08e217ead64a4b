use Rattle.std.proofs.Common.{◌≡◌, ◌++◌, map, pos, ◌+ℤ◌}
use Rattle.std.specs.List.{range_with_len}
use Rattle.hpf_num.proofs.runs.push_all.Given as goal

abbrev pub invariant-loop-k : goal.invariant-loop-k
invariant-loop-k l =
    l.items.items ≡ l.fn.items.items ++ map (λ k. l.fn.run.low +ℤ pos k) (range_with_len 0 l.k)
