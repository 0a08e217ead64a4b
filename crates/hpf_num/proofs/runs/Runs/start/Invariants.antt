use Rattle.std.proofs.Common.{◌≡◌, ◌≤◌, not, filter, length, take, pos, ◌-ℤ◌}
use Rattle.hpf_num.specs.Runs.{has}
use Rattle.hpf_num.proofs.runs.Runs.start.Given as goal

abbrev pub invariant-loop-place : goal.invariant-loop-place
invariant-loop-place l =
    (l.before ≡ length (filter (λ i. not (has l.self (i -ℤ pos 1))) (take l.place l.self))) × (l.before ≤ l.k) × (l.before ≤ l.place)
