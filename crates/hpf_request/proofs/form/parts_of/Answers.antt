use Rattle.std.proofs.Common.{arith}
use Rattle.hpf_request.proofs.Formed.{held_among, part_is, parts_push, all_parts}
use Rattle.hpf_request.proofs.form.parts_of.Goals as goal

pub part_of-requires-clause-among : goal.part_of-requires-clause-among
part_of-requires-clause-among c = held_among c.args.mapping.now c.loop-p.p c.args.all.now c.in_ok-held.held c.requires.all c.in_ok-held.ensures

pub loop-p-preserved : goal.loop-p-preserved
loop-p-preserved c =
    let part = c.in_ok-part.ensures in
    parts_push c.args.mapping.now c.loop-p.p c.loop-p.parts.items _ c.in_ok-part.part c.loop-p.invariant
    (part_is c.args.mapping.now c.loop-p.p c.args.all.now c.in_ok-held.held c.in_ok-part.part c.requires.all c.in_ok-held.ensures (c.element_order.ensures.once c.args.mapping.now.bounds) part.unmarked part.within part.places)
    c.in_ok-push.ensures.items

pub returns : goal.returns
returns c = all_parts c.args.mapping.now c.loop-p.p c.loop-p.parts.items c.loop-p.invariant (omega (arith, c.loop-p-test.false, c.loop-p.auto.p-end, c.procs-p-end.ensures))
