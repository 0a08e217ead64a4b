use Rattle.std.proofs.Common.{◌≤◌, length, subst}
use Rattle.hpf_own.specs.Space.{StandOnce}
use Rattle.hpf_own.specs.Held.{Part}
use Rattle.hpf_own.proofs.Places.{part_once}
use Rattle.hpf_own.proofs.held.Held.rank.Goals as goal
use Rattle.hpf_own.specs.Limits.{element_limit}

pub returns-clause-few : goal.returns-clause-few
returns-clause-few c = subst (λ (p : Part). length p.indices ≤ element_limit) c.self.view_is c.self.invariant.few

pub returns-clause-once : goal.returns-clause-once
returns-clause-once c = subst (λ (p : Part). StandOnce p.indices) c.self.view_is (part_once c.self.inside.sides.items c.self.invariant.members)
