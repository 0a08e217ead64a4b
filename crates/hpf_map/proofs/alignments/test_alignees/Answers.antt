use Rattle.std.proofs.Common.{map}
use Rattle.std.specs.Prelude.{option_map}
use Rattle.hpf_syntax.specs.Plain.{sub_tree}
use Rattle.hpf_map.specs.Alignments.{alignee_breaches}
use Rattle.hpf_map.proofs.FoundLemmas.{each_more}
use Rattle.hpf_map.proofs.alignments.test_alignees.Goals as goal

pub loop-alignee-preserved : goal.loop-alignee-preserved
loop-alignee-preserved c =
    each_more (alignee_breaches c.args.names.now c.args.sources.now c.args.base.now (option_map (map sub_tree) c.args.subs.now) c.args.said.now)
    c.args.alignees.now c.loop-alignee.alignee-index c.alignee-item.result _ _ _
    c.loop-alignee-test.true c.alignee-item.is c.loop-alignee.invariant c.in_ok-test_alignee.ensures
