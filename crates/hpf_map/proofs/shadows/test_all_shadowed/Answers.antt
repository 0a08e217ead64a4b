use Rattle.hpf_map.specs.Shadows.{shadowed_breaches}
use Rattle.hpf_map.proofs.FoundLemmas.{each_more}
use Rattle.hpf_map.proofs.shadows.test_all_shadowed.Goals as goal

pub loop-spot-preserved : goal.loop-spot-preserved
loop-spot-preserved c =
    each_more (shadowed_breaches c.args.names.now c.args.widths) c.args.spots.now c.loop-spot.spot-index c.spot-item.result _ _ _
    c.loop-spot-test.true c.spot-item.is c.loop-spot.invariant c.test_shadowed.ensures
