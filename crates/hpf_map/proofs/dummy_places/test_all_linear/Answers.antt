use Rattle.std.proofs.Common.{Some}
use Rattle.hpf_syntax.specs.Plain.{sub_tree}
use Rattle.hpf_map.specs.Dummies.{linear_breaches}
use Rattle.hpf_map.specs.Hidden.{hides}
use Rattle.hpf_map.proofs.FoundLemmas.{each_seen_more}
use Rattle.hpf_map.proofs.dummy_places.test_all_linear.Goals as goal

pub loop-sub-preserved : goal.loop-sub-preserved
loop-sub-preserved c =
    each_seen_more sub_tree (linear_breaches (hides (Some c.args.dummies.now))) c.args.subs.now c.loop-sub.sub-index c.sub-item.result _ _ _
    c.loop-sub-test.true c.sub-item.is c.loop-sub.invariant c.in_ok-test_linear.ensures
