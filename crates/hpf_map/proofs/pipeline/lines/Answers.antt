use Rattle.std.proofs.Common.{◌++◌, ap, ◌∙◌}
use Rattle.hpf_syntax.specs.Plain.{item_tree}
use Rattle.hpf_map.specs.Pipeline.{line_of}
use Rattle.hpf_map.proofs.PipelineLemmas.{found_more}
use Rattle.hpf_map.proofs.pipeline.lines.Goals as goal

pub loop-item-preserved : goal.loop-item-preserved
loop-item-preserved c =
    found_more item_tree line_of c.args.items.now c.loop-item.item-index c.item-item.result _ _
    c.loop-item-test.true c.item-item.is c.loop-item.invariant (c.in_ok-add_found.ensures ∙ ap (λ l. c.loop-item.spots.items ++ l) c.line_of.ensures)
