use Rattle.std.proofs.Common.{ap, ◌∙◌}
use Rattle.hpf_syntax.specs.Plain.{item_tree}
use Rattle.hpf_map.specs.Dealing.{formats_breaches}
use Rattle.hpf_map.specs.Found.{least_with}
use Rattle.hpf_map.proofs.PairedLemmas.{each_with_more}
use Rattle.hpf_map.proofs.dealing.test_all_formats.Goals as goal

pub loop-k-preserved : goal.loop-k-preserved
loop-k-preserved c =
    each_with_more item_tree (formats_breaches c.args.names.now) c.args.items.now c.loop-k.k c.index-items-k.result c.args.widths.now _ _ _
    c.loop-k-test.true c.index-items-k.is c.loop-k.invariant
    (c.test_formats.ensures ∙ ap (λ o. least_with c.loop-k.breaches (formats_breaches c.args.names.now (item_tree c.index-items-k.result) o)) c.at_place.ensures)
