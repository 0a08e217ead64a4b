use Rattle.hpf_map.proofs.ShadowLemmas.{AreFound-none, AreFound-more}
use Rattle.std.proofs.Common.{take}
use Rattle.hpf_map.proofs.shadows.first_statements.Goals as goal

pub loop-used-init : goal.loop-used-init
loop-used-init c = AreFound-none c.args.uses.now c.new-first.result c.args.breaches.now c.new-first.ensures.empty

pub loop-used-preserved : goal.loop-used-preserved
loop-used-preserved c =
    let earlier = take c.loop-used.used-index c.args.uses.now in
    let found = c.loop-used.invariant in
    AreFound-more c.args.uses.now c.loop-used.used-index c.loop-used.first c.take_use.new.first c.args.breaches.now c.loop-used.breaches c.take_use.new.breaches found c.loop-used-test.true
    (c.in_ok-take_use.ensures.first earlier found.statements) (c.in_ok-take_use.ensures.breaches earlier found.statements)
