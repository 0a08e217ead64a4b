use Rattle.std.proofs.Common.{◌≡◌, ◌≤◌, length, drop}
use Rattle.hpf_own.specs.Space.{choices}
use Rattle.hpf_own.proofs.held.Held.count.Given as goal

abbrev pub invariant-loop-d : goal.invariant-loop-d
invariant-loop-d l = record {
  within : l.d ≤ length l.self-inside.sides.items;
  count : l.count ≡ length (choices (drop l.d l.self-inside.sides.items));
}

abbrev pub decreases-loop-d : goal.decreases-loop-d
decreases-loop-d l = l.d
