use Rattle.std.proofs.Common.{◌≡◌, ℕ, ◌-◌, ◌<◌, ◌≤◌, get_or, pos, ◌+ℤ◌}
use Rattle.hpf_num.proofs.runs.Runs.last_from.Given as goal

abbrev pub invariant-loop-place : goal.invariant-loop-place
invariant-loop-place l =
    (k : ℕ) → l.first ≤ k → k < l.place → get_or l.self k (pos 0) ≡ (get_or l.self l.first (pos 0) +ℤ pos (k - l.first))
