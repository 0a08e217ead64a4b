use Rattle.std.proofs.Common.{sym, ap, ◌∙◌}
use Rattle.hpf_syntax.specs.Plain.{width_tree}
use Rattle.hpf_map.specs.Gathered.{with_one}
use Rattle.hpf_map.specs.ShadowWidths.{width_of, width_breaches}
use Rattle.hpf_map.proofs.FoundLemmas.{least_with-nil, each_seen_more}
use Rattle.hpf_map.proofs.GatherLemmas.{all_of-nil, gather_more}
use Rattle.hpf_map.proofs.shadow_widths.read_shadow.Goals as goal

pub loop-item-init : goal.loop-item-init
loop-item-init c = record { widths = c.new-widths.ensures ∙ sym all_of-nil; breaches = sym (least_with-nil c.args.breaches.now) }

pub loop-item-preserved : goal.loop-item-preserved
loop-item-preserved c = record {
  widths =
      gather_more width_tree (width_of c.args.scope.now) c.args.list.now c.loop-item.item-index c.item-item.result _ _
      c.loop-item-test.true c.item-item.is c.loop-item.invariant.widths (c.in_ok-add.ensures ∙ ap (with_one c.loop-item.widths) c.width.ensures.width);
  breaches =
      each_seen_more width_tree (width_breaches c.args.scope.now) c.args.list.now c.loop-item.item-index c.item-item.result _ _ _
      c.loop-item-test.true c.item-item.is c.loop-item.invariant.breaches c.width.ensures.breaches;
}
