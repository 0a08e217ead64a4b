use Rattle.std.proofs.Common.{◌≡◌, ◌+◌, ◌≤◌, List, length, take, ap, ◌∙◌, arith}
use Rattle.std.proofs.lemmas.List.{take_all}
use Rattle.std.proofs.lemmas.Option.{slice_get_within}
use Rattle.hpf_sched.specs.declared.step.Move.{Move}
use Rattle.hpf_sched.specs.declared.step.Step.{Step}
use Rattle.hpf_sched.specs.Moves.{moves, runs}
use Rattle.hpf_pack.proofs.Stepping.{next, within, to_fits, some}
use Rattle.hpf_pack.proofs.Copying.{unpacked_more}
use Rattle.hpf_pack.proofs.moving.unpack.Goals as goal

pub copy-requires-clause-from : goal.copy-requires-clause-from
copy-requires-clause-from c =
    omega (arith, within c.args.route.now c.loop-k.k c.step-step.result (c.whole_steps.ensures.runs c.args.route.now) c.step-step.ensures, c.loop-k.invariant.at, c.requires.values)

pub copy-requires-clause-into : goal.copy-requires-clause-into
copy-requires-clause-into c =
    omega (arith, to_fits c.args.route.now c.loop-k.k c.step-step.result (c.whole_steps.ensures.runs c.args.route.now) c.step-step.ensures (length c.args.into.now) c.requires.places)

pub overflow_add-at : goal.overflow_add-at
overflow_add-at c =
    omega (arith, within c.args.route.now c.loop-k.k c.step-step.result (c.whole_steps.ensures.runs c.args.route.now) c.step-step.ensures, c.loop-k.invariant.at, c.requires.values)

pub loop-k-preserved : goal.loop-k-preserved
loop-k-preserved c =
    let runs = c.whole_steps.ensures.runs c.args.route.now in
    let from : c.loop-k.at + c.step-step.result.length ≤ length c.args.from.now = omega (arith, within c.args.route.now c.loop-k.k c.step-step.result runs c.step-step.ensures, c.loop-k.invariant.at, c.requires.values) in
    let into : c.step-step.result.to + c.step-step.result.length ≤ length c.loop-k.into = omega (arith, to_fits c.args.route.now c.loop-k.k c.step-step.result runs c.step-step.ensures (length c.args.into.now) c.requires.places) in
    record {
      at = omega (arith, next c.args.route.now c.loop-k.k c.step-step.result runs c.step-step.ensures, c.loop-k.invariant.at);
      written = rw c.copy.ensures (unpacked_more c.args.route.now c.loop-k.k c.step-step.result c.args.from.now c.args.into.now c.loop-k.into c.loop-k.at runs c.elements.ensures.order c.step-step.ensures c.loop-k.invariant.at from into (some c.args.route.now c.loop-k.k c.step-step.result runs c.step-step.ensures) c.loop-k.invariant.written);
    }

pub returns-clause-written : goal.returns-clause-written
returns-clause-written c = λ k move h.
    let steps = runs c.args.route.now in
    let all : take c.loop-k.k steps ≡ steps = take_all c.loop-k.k steps (omega arith) in
    let size : c.loop-k.at ≡ length c.args.route.now = c.loop-k.invariant.at ∙ ap (λ (ss : List Step). length (moves ss)) all ∙ ap (λ (ms : List Move). length ms) (c.whole_steps.ensures.runs c.args.route.now).cover in
    c.loop-k.invariant.written.written k move (omega (arith, slice_get_within c.args.route.now k move h)) h

pub returns-clause-others : goal.returns-clause-others
returns-clause-others c = λ place none. c.loop-k.invariant.written.others place (λ j move less h. none j move h)
