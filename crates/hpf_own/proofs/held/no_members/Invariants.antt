use Rattle.std.proofs.Common.{◌≡◌, [], replicate}
use Rattle.hpf_own.proofs.held.no_members.Given as goal

abbrev pub invariant-loop : goal.invariant-loop
invariant-loop l = l.sides.items ≡ replicate l.counter []
