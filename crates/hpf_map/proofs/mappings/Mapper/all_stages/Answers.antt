use Rattle.std.proofs.Common.{map}
use Rattle.hpf_syntax.specs.Plain.{item_tree}
use Rattle.hpf_map.proofs.ResolveLemmas.{stages_more}
use Rattle.hpf_map.proofs.mappings.Mapper.all_stages.Goals as goal

pub loop-line-preserved : goal.loop-line-preserved
loop-line-preserved c =
    rw (c.in_ok-push.ensures.items)
    (stages_more (map item_tree c.args.self.now.items.now) c.args.lines.now c.loop-line.stages.items c.loop-line.line-index c.line-item.result c.in_ok-stage.field-0 c.loop-line-test.true c.line-item.is c.loop-line.invariant c.in_ok-stage.ensures)
