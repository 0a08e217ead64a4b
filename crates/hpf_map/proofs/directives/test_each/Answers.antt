use Rattle.hpf_map.proofs.FoundLemmas.{each_seen_more}
use Rattle.hpf_map.proofs.directives.test_each.Goals as goal

pub loop-part-preserved : goal.loop-part-preserved
loop-part-preserved g c =
    each_seen_more g.P.Part.tree (g.P.Part.found c.args.scope.now) c.args.parts.now c.loop-part.part-index c.part-item.result _ _ _
    c.loop-part-test.true c.part-item.is c.loop-part.invariant c.test.ensures
