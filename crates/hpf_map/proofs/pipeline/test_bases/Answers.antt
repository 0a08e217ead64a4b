use Rattle.hpf_map.specs.Pipeline.{base_breaches}
use Rattle.hpf_map.proofs.FoundLemmas.{each_more}
use Rattle.hpf_map.proofs.pipeline.test_bases.Goals as goal

pub loop-spot-preserved : goal.loop-spot-preserved
loop-spot-preserved c =
    each_more (base_breaches c.args.names.now c.args.ways.now) c.args.lines.now c.loop-spot.spot-index c.spot-item.result _ _ _
    c.loop-spot-test.true c.spot-item.is c.loop-spot.invariant c.test_base.ensures
