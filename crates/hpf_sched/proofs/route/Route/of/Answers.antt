use Rattle.std.proofs.Common.{◌^◌, arith}
use Rattle.hpf_sched.proofs.Runs.{few_entered}
use Rattle.hpf_sched.proofs.route.Route.of.Goals as goal

pub total-elements-requires : goal.total-elements-requires
total-elements-requires c =
    let few = few_entered c.args.chain (2 ^ 63) c.requires.order c.requires.small in
    let is = c.into_steps-steps.ensures.moves in
    rw (c.as_slice.ensures.value, is) (omega arith)
