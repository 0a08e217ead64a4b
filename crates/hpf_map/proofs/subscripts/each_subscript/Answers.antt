use Rattle.std.proofs.Common.{sym, ap, ◌∙◌, Some}
use Rattle.hpf_syntax.specs.Plain.{sub_tree}
use Rattle.hpf_map.specs.Gathered.{with_one}
use Rattle.hpf_map.specs.Hidden.{hides}
use Rattle.hpf_map.specs.Subscripts.{subscript_of, subscript_form_breaches}
use Rattle.hpf_map.proofs.FoundLemmas.{least_with-nil, each_seen_more}
use Rattle.hpf_map.proofs.GatherLemmas.{all_of-nil, gather_more}
use Rattle.hpf_map.proofs.subscripts.each_subscript.Goals as goal

pub loop-sub-init : goal.loop-sub-init
loop-sub-init c = record { said = c.new-said.ensures ∙ sym all_of-nil; breaches = sym (least_with-nil c.args.breaches.now) }

pub loop-sub-preserved : goal.loop-sub-preserved
loop-sub-preserved c = record {
  said =
      gather_more sub_tree (subscript_of c.args.scope.now (hides (Some c.args.dummies.now))) c.args.subs.now c.loop-sub.sub-index c.sub-item.result _ _
      c.loop-sub-test.true c.sub-item.is c.loop-sub.invariant.said (c.in_ok-add.ensures ∙ ap (with_one c.loop-sub.said) c.one_subscript.ensures.subscript);
  breaches =
      each_seen_more sub_tree (subscript_form_breaches c.args.scope.now (hides (Some c.args.dummies.now))) c.args.subs.now c.loop-sub.sub-index c.sub-item.result _ _ _
      c.loop-sub-test.true c.sub-item.is c.loop-sub.invariant.breaches c.one_subscript.ensures.breaches;
}
