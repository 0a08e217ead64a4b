use Rattle.std.proofs.Common.{◌≡◌, filter, map, pos, ◌+ℤ◌, ◌*ℤ◌}
use Rattle.std.specs.List.{range_with_len}
use Rattle.hpf_dist.specs.Shares.{is_share}
use Rattle.hpf_dist.proofs.axis.Axis.runs_of.Given as goal

abbrev pub invariant-loop-k : goal.invariant-loop-k
invariant-loop-k l =
    l.runs ≡ filter (λ i. is_share l.self l.c (l.fn.a *ℤ i +ℤ l.fn.b)) (map (λ k. l.fn.bounds.low +ℤ pos k) (range_with_len 0 l.k))
