use Rattle.hpf_syntax.specs.Plain.{item_tree}
use Rattle.hpf_map.specs.Shadows.{shadow_breaches}
use Rattle.hpf_map.proofs.FoundLemmas.{each_seen_more}
use Rattle.hpf_map.proofs.shadows.test_shadows.Goals as goal

pub loop-item-preserved : goal.loop-item-preserved
loop-item-preserved c =
    each_seen_more item_tree (shadow_breaches c.args.names.now) c.args.items.now c.loop-item.item-index c.item-item.result _ _ _
    c.loop-item-test.true c.item-item.is c.loop-item.invariant c.test_shadow.ensures
