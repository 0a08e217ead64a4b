use Rattle.std.proofs.Common.{◌∙◌}
use Rattle.hpf_own.specs.Space.{product}
use Rattle.hpf_own.specs.Owners.{owns}
use Rattle.hpf_own.proofs.Taking.{is_member, members_are, filter_fewer}
use Rattle.hpf_own.proofs.mapping.Mapping.owner_set.Goals as goal
use Rattle.hpf_dist.specs.Limits.{processor_limit}

pub returns-clause-owners : goal.returns-clause-owners
returns-clause-owners c =
    let m = c.args.self.now in
    c.new.ensures ∙ members_are (λ p. owns m p c.args.index.now) (product m.procs) c.owner_bits.result c.owner_bits.ensures.owners c.owner_bits.ensures.few

pub returns-clause-few : goal.returns-clause-few
returns-clause-few c = rw c.new.ensures (filter_fewer (is_member c.owner_bits.result) 0 processor_limit)
