use Rattle.hpf_syntax.specs.Plain.{item_tree}
use Rattle.hpf_map.specs.Alignments.{align_breaches}
use Rattle.hpf_map.proofs.PairedLemmas.{each_with_more}
use Rattle.hpf_map.proofs.alignments.test_aligns.Goals as goal

pub loop-k-preserved : goal.loop-k-preserved
loop-k-preserved c =
    each_with_more item_tree (align_breaches c.args.names.now) c.args.items.now c.loop-k.k c.index-items-k.result c.args.said.now _ _ _
    c.loop-k-test.true c.index-items-k.is c.loop-k.invariant c.in_ok-test_align_at.ensures
