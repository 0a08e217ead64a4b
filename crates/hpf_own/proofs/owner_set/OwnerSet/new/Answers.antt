use Rattle.hpf_own.proofs.Taking.{taken_more, taken_all}
use Rattle.hpf_own.proofs.owner_set.OwnerSet.new.Goals as goal

pub loop-p-preserved : goal.loop-p-preserved
loop-p-preserved c =
    let first = c.in-Some.ensures in
    rw c.from.ensures
    (taken_more c.args.bits c.loop-p.numbers c.loop-p.count c.loop-p.from c.in-Some.p c.loop-p.invariant first.0 first.1 first.2 first.3)

pub returns : goal.returns
returns c = taken_all c.args.bits c.loop-p.numbers c.loop-p.count c.loop-p.from c.loop-p.invariant c.in_default.ensures
