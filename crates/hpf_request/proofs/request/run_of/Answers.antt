use Rattle.std.proofs.Common.{◌∙◌, List, map, refl, sym, ap}
use Rattle.hpf_syntax.specs.Plain.{item_tree}
use Rattle.hpf_syntax.specs.declared.tree.Item.{Item}
use Rattle.hpf_request.specs.Stages.{has_stage}
use Rattle.hpf_request.proofs.Decisions.{denied_as, staged}
use Rattle.hpf_request.proofs.request.run_of.Goals as goal

pub returns-then-has_stage : goal.returns-then-has_stage
returns-then-has_stage c =
    denied_as _ _ refl (rw c.from.ensures tt)
    (λ memory. staged (map item_tree c.args.items.now) c.from.result
    (ap (λ (items : List Item). has_stage (map item_tree items)) (sym c.as_slice.ensures) ∙ sym c.has_stage.ensures ∙ c.if-has_stage.true)
    c.from.ensures)

pub run_of_one-requires : goal.run_of_one-requires
run_of_one-requires c =
    ap (λ (items : List Item). has_stage (map item_tree items)) (sym c.as_slice.ensures) ∙ sym c.has_stage.ensures ∙ c.if-has_stage.false
