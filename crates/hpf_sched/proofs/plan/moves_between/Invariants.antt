use Rattle.std.proofs.Common.{◌≡◌, ◌≤◌, ◌-◌, List, ℤ, length, All}
use Rattle.hpf_own.specs.Held.{IsMadeOf}
use Rattle.hpf_sched.specs.Lines.{IsSmall, box_moves, box_side}
use Rattle.hpf_sched.proofs.plan.moves_between.Given as goal

abbrev pub invariant-loop-d : goal.invariant-loop-d
invariant-loop-d l = record {
  within : l.d ≤ length l.perm;
  small : All (IsSmall (length l.perm - l.d)) l.moves.items;
  moves : (os hs : List (List ℤ)) → IsMadeOf l.owned os → IsMadeOf l.held hs
      → l.moves.items ≡ box_moves (box_side l.before l.bounds l.perm os hs) l.d (length l.perm - l.d);
}

abbrev pub decreases-loop-d : goal.decreases-loop-d
decreases-loop-d l = l.d
