use Rattle.std.proofs.Common.{ℕ, ◌-◌, ◌<◌, ◌≤◌, length, get_or, pos, ◌≤ℤ◌, ◌<ℤ◌}
use Rattle.hpf_num.proofs.runs.Runs.below.Given as goal

abbrev pub invariant-loop-low : goal.invariant-loop-low
invariant-loop-low l = record {
  order : l.low ≤ l.high;
  within : l.high ≤ length l.self-inside.members.items;
  below : (k : ℕ) → k < l.low → get_or l.self-inside.members.items k (pos 0) <ℤ l.i;
  others : (k : ℕ) → l.high ≤ k → k < length l.self-inside.members.items → l.i ≤ℤ get_or l.self-inside.members.items k (pos 0);
}

abbrev pub decreases-loop-low : goal.decreases-loop-low
decreases-loop-low l = l.high - l.low
