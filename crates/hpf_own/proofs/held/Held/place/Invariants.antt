use Rattle.std.proofs.Common.{◌≤◌, length, drop}
use Rattle.hpf_own.proofs.Sides.{IsPlaced}
use Rattle.hpf_own.proofs.held.Held.place.Given as goal

abbrev pub invariant-loop-d : goal.invariant-loop-d
invariant-loop-d l = record {
  within : l.d ≤ length l.self-inside.sides.items;
  placed : IsPlaced l.self-inside.sides.items l.d l.place (drop l.d l.index);
}

abbrev pub decreases-loop-d : goal.decreases-loop-d
decreases-loop-d l = l.d
