use Rattle.std.proofs.Common.{sym, ◌∙◌}
use Rattle.hpf_syntax.specs.Plain.{item_tree}
use Rattle.hpf_map.specs.Built.{is_built}
use Rattle.hpf_map.proofs.BuiltLemmas.{all_more, one_fails}
use Rattle.hpf_map.proofs.built.are_built.Goals as goal

pub loop-item-preserved : goal.loop-item-preserved
loop-item-preserved c =
    all_more item_tree is_built c.args.items.now c.loop-item.item-index c.item-item.result c.loop-item-test.true c.item-item.is c.loop-item.invariant
    (sym c.is_built.ensures ∙ c.if-not-is_built.false)

pub returns-then-not-is_built : goal.returns-then-not-is_built
returns-then-not-is_built c =
    one_fails item_tree is_built c.args.items.now c.loop-item.item-index c.item-item.result c.loop-item-test.true c.item-item.is
    (sym c.is_built.ensures ∙ c.if-not-is_built.true)
