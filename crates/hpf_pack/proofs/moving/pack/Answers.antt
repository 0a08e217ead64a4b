use Rattle.std.proofs.Common.{◌+◌, ◌≤◌, length, arith}
use Rattle.hpf_pack.proofs.Stepping.{next, within, from_fits}
use Rattle.hpf_pack.proofs.Copying.{packed_more}
use Rattle.hpf_pack.proofs.moving.pack.Goals as goal

pub copy-requires-clause-from : goal.copy-requires-clause-from
copy-requires-clause-from c = from_fits c.args.route.now c.loop-k.k c.step-step.result (c.whole_steps.ensures.runs c.args.route.now) c.step-step.ensures (length c.args.from.now) c.requires.places

pub copy-requires-clause-into : goal.copy-requires-clause-into
copy-requires-clause-into c =
    omega (arith, within c.args.route.now c.loop-k.k c.step-step.result (c.whole_steps.ensures.runs c.args.route.now) c.step-step.ensures, c.loop-k.invariant.at, c.requires.room)

pub overflow_add-at : goal.overflow_add-at
overflow_add-at c =
    omega (arith, within c.args.route.now c.loop-k.k c.step-step.result (c.whole_steps.ensures.runs c.args.route.now) c.step-step.ensures, c.loop-k.invariant.at, c.requires.room)

pub loop-k-preserved : goal.loop-k-preserved
loop-k-preserved c =
    let runs = c.whole_steps.ensures.runs c.args.route.now in
    let from = from_fits c.args.route.now c.loop-k.k c.step-step.result runs c.step-step.ensures (length c.args.from.now) c.requires.places in
    let into : c.loop-k.at + c.step-step.result.length ≤ length c.loop-k.into = omega (arith, within c.args.route.now c.loop-k.k c.step-step.result runs c.step-step.ensures, c.loop-k.invariant.at, c.requires.room) in
    record {
      at = omega (arith, next c.args.route.now c.loop-k.k c.step-step.result runs c.step-step.ensures, c.loop-k.invariant.at);
      written = rw c.copy.ensures (packed_more c.args.route.now c.loop-k.k c.step-step.result c.args.from.now c.loop-k.into c.loop-k.at runs c.step-step.ensures from into c.loop-k.invariant.written);
    }
