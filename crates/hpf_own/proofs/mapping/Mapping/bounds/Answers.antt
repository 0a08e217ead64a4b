use Rattle.std.proofs.Common.{subst}
use Rattle.hpf_own.specs.Mapping.{IsMapping}
use Rattle.hpf_own.proofs.Numbers.{some_owner}
use Rattle.hpf_own.proofs.mapping.Mapping.bounds.Goals as goal

pub returns-clause-owner : goal.returns-clause-owner
returns-clause-owner c =
    let is : IsMapping c.args.self.now = subst IsMapping c.self.view_is c.self.invariant.mapping in
    λ index lies. some_owner c.args.self.now index is lies
