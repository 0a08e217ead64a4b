use Rattle.std.proofs.Common.{◌≤◌, List, ℤ, length, take, All}
use Rattle.hpf_num.specs.Runs.{AreMembers}
use Rattle.hpf_own.proofs.held.have_members.Given as goal

abbrev pub invariant-loop-side : goal.invariant-loop-side
invariant-loop-side l = All (λ (xs : List ℤ). 1 ≤ length xs) (take l.side-index l.sides) × All AreMembers (take l.side-index l.sides)
