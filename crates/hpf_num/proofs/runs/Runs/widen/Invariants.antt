use Rattle.std.proofs.Common.{◌≡◌, filter, map, pos, ◌+ℤ◌}
use Rattle.std.specs.List.{range_with_len, list_any}
use Rattle.hpf_num.specs.Runs.{is_near}
use Rattle.hpf_num.proofs.runs.Runs.widen.Given as goal

abbrev pub invariant-loop-k : goal.invariant-loop-k
invariant-loop-k l =
    l.near ≡ filter (λ i. list_any (λ j. is_near l.low l.high j i) l.self) (map (λ k. l.fn.bounds.low +ℤ pos k) (range_with_len 0 l.k))
