use Rattle.std.proofs.Common.{sym, ◌∙◌}
use Rattle.hpf_syntax.specs.Plain.{item_tree}
use Rattle.hpf_request.specs.Stages.{is_stage}
use Rattle.hpf_request.proofs.Seen.{none_more, one_has}
use Rattle.hpf_request.proofs.stages.has_stage.Goals as goal

pub loop-item-preserved : goal.loop-item-preserved
loop-item-preserved c =
    none_more item_tree is_stage c.args.items.now c.loop-item.item-index c.item-item.result c.loop-item-test.true c.item-item.is c.loop-item.invariant
    (sym c.is_stage.ensures ∙ c.if-is_stage.false)

pub returns-then-is_stage : goal.returns-then-is_stage
returns-then-is_stage c =
    one_has item_tree is_stage c.args.items.now c.loop-item.item-index c.item-item.result c.loop-item-test.true c.item-item.is
    (sym c.is_stage.ensures ∙ c.if-is_stage.true)
