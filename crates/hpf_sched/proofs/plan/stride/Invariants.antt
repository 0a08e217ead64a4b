use Rattle.std.proofs.Common.{◌≡◌, ◌≤◌, List, ℤ, length, map, take}
use Rattle.hpf_own.specs.Space.{product}
use Rattle.hpf_own.specs.Held.{IsMadeOf}
use Rattle.hpf_sched.proofs.plan.stride.Given as goal
use Rattle.hpf_own.specs.Limits.{element_limit}

abbrev pub invariant-loop-e : goal.invariant-loop-e
invariant-loop-e l = record {
  stride : (sides : List (List ℤ)) → IsMadeOf l.part sides → l.stride ≡ product (take l.e (map length sides));
  few : l.stride ≤ element_limit;
}
