use Rattle.std.proofs.Common.{sym, ap, ◌∙◌}
use Rattle.hpf_syntax.specs.Plain.{bound_tree}
use Rattle.hpf_map.specs.Gathered.{with_one}
use Rattle.hpf_map.specs.Shapes.{span, bound_breaches}
use Rattle.hpf_map.proofs.FoundLemmas.{least_with-nil, each_seen_more}
use Rattle.hpf_map.proofs.GatherLemmas.{all_of-nil, gather_more}
use Rattle.hpf_map.proofs.shapes.spans.Goals as goal

pub loop-bound-init : goal.loop-bound-init
loop-bound-init c = record { spans = c.new-spans.ensures ∙ sym all_of-nil; breaches = sym (least_with-nil c.args.breaches.now) }

pub loop-bound-preserved : goal.loop-bound-preserved
loop-bound-preserved c = record {
  spans =
      gather_more bound_tree (span c.args.scope.now c.args.limit) c.args.bounds.now c.loop-bound.bound-index c.bound-item.result _ _
      c.loop-bound-test.true c.bound-item.is c.loop-bound.invariant.spans (c.in_ok-add.ensures ∙ ap (with_one c.loop-bound.spans) c.span.ensures.span);
  breaches =
      each_seen_more bound_tree (bound_breaches c.args.scope.now c.args.limit) c.args.bounds.now c.loop-bound.bound-index c.bound-item.result _ _ _
      c.loop-bound-test.true c.bound-item.is c.loop-bound.invariant.breaches c.span.ensures.breaches;
}
