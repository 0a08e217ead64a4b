use Rattle.std.proofs.Common.{sym, ap, ◌∙◌}
use Rattle.hpf_syntax.specs.Plain.{tree}
use Rattle.hpf_map.specs.Gathered.{with_one}
use Rattle.hpf_map.specs.Values.{value, expression_breaches}
use Rattle.hpf_map.proofs.FoundLemmas.{least_with-nil, each_seen_more}
use Rattle.hpf_map.proofs.GatherLemmas.{all_of-nil, gather_more}
use Rattle.hpf_map.proofs.lines.read_entries.Goals as goal

pub loop-e-init : goal.loop-e-init
loop-e-init c = record { values = c.new-values.ensures ∙ sym all_of-nil; breaches = sym (least_with-nil c.args.breaches.now) }

pub loop-e-preserved : goal.loop-e-preserved
loop-e-preserved c = record {
  values =
      gather_more tree (value c.args.scope.now) c.args.list.now c.loop-e.e-index c.e-item.result _ _
      c.loop-e-test.true c.e-item.is c.loop-e.invariant.values (c.in_ok-add.ensures ∙ ap (with_one c.loop-e.values) c.expression.ensures.value);
  breaches =
      each_seen_more tree (expression_breaches c.args.scope.now) c.args.list.now c.loop-e.e-index c.e-item.result _ _ _
      c.loop-e-test.true c.e-item.is c.loop-e.invariant.breaches c.expression.ensures.breaches;
}
