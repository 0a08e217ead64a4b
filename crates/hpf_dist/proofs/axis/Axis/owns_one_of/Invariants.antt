use Rattle.std.proofs.Common.{◌≡◌, ◌==◌, ℕ, ◌-◌, ◌<◌, false, pos, ◌+ℤ◌, ◌*ℤ◌}
use Rattle.hpf_dist.specs.Spread.{owner_at}
use Rattle.hpf_dist.proofs.axis.Axis.owns_one_of.Given as goal

abbrev pub invariant-loop-k : goal.invariant-loop-k
invariant-loop-k l =
    (l.k < l.count → l.t ≡ l.first +ℤ (pos l.k *ℤ l.step)) × ((j : ℕ) → j < l.k → (owner_at l.self (l.first +ℤ (pos j *ℤ l.step)) == l.c) ≡ false)

abbrev pub decreases-loop-k : goal.decreases-loop-k
decreases-loop-k l = l.count - l.k
