use Rattle.std.proofs.Common.{◌≡◌, filter, map, pos, ◌+ℤ◌, ◌*ℤ◌}
use Rattle.std.specs.List.{range_with_len}
use Rattle.hpf_num.specs.Runs.{has}
use Rattle.hpf_num.proofs.runs.Runs.preimage.Given as goal

abbrev pub invariant-loop-k : goal.invariant-loop-k
invariant-loop-k l =
    l.found ≡ filter (λ i. has l.self (l.fn.a *ℤ i +ℤ l.fn.b)) (map (λ k. l.fn.bounds.low +ℤ pos k) (range_with_len 0 l.k))
