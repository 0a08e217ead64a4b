use Rattle.std.proofs.Common.{subst}
use Rattle.hpf_dist.specs.Axis.{IsAxis}
use Rattle.hpf_dist.proofs.Owned.{has_owners}
use Rattle.hpf_dist.proofs.axis.Axis.procs.Goals as goal

pub returns-clause-owners : goal.returns-clause-owners
returns-clause-owners c = has_owners c.args.self.now (subst IsAxis c.self.view_is c.self.invariant)
