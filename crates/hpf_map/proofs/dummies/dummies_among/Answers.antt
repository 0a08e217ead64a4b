use Rattle.hpf_map.proofs.DummyLemmas.{dummies_more}
use Rattle.hpf_map.proofs.dummies.dummies_among.Goals as goal

pub loop-source-preserved : goal.loop-source-preserved
loop-source-preserved c =
    λ word. dummies_more c.args.sources.now c.loop-source.source-index c.source-item.result word _ _
    c.loop-source-test.true c.source-item.is (c.loop-source.invariant word) (c.in_ok-add_dummy.ensures word)
