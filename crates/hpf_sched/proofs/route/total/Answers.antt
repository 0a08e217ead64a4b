use Rattle.std.proofs.Common.{◌+◌, arith}
use Rattle.hpf_sched.proofs.Runs.{step_of, total_more, total_within}
use Rattle.hpf_sched.proofs.route.total.Goals as goal

pub overflow_add-elements : goal.overflow_add-elements
overflow_add-elements c =
    omega (arith, total_more c.args.steps.now c.loop-step.step-index (step_of 0 0 0) c.loop-step-test.true, total_within c.args.steps.now (c.loop-step.step-index + 1))

pub loop-step-preserved : goal.loop-step-preserved
loop-step-preserved c =
    omega (arith, total_more c.args.steps.now c.loop-step.step-index (step_of 0 0 0) c.loop-step-test.true)
