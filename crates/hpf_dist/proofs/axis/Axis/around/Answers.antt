use Rattle.std.proofs.Common.{◌≤◌, ◌-◌, ◌%◌, subst}
use Rattle.hpf_dist.specs.Around.{IsAround}
use Rattle.hpf_dist.specs.Axis.{Divided}
use Rattle.hpf_dist.proofs.Alike.{around_cyclic}
use Rattle.hpf_dist.proofs.axis.Axis.around.Goals as goal
use Rattle.hpf_num.specs.Limits.{integer_limit}

pub returns-in-Cyclic : goal.returns-in-Cyclic
returns-in-Cyclic c =
    let width = c.in-Cyclic.width in
    let some : 1 ≤ width = rw c.in-Cyclic.is at c.self.invariant.suits in
    let few : width ≤ integer_limit = rw c.in-Cyclic.is at c.self.invariant.small in
    let is : IsAround c.self.inside.format c.self.inside.procs c.args.before (record { below = c.args.before % width; above = width - 1 - c.args.before % width }) =
    rw c.in-Cyclic.is (around_cyclic width c.self.inside.procs c.args.before some few) in
    rw c.in_block-in-Cyclic.ensures
    (subst (λ (a : Divided). IsAround a.format a.procs c.args.before (record { below = c.args.before % width; above = width - 1 - c.args.before % width })) c.self.view_is is)
