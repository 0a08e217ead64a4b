use Rattle.hpf_syntax.specs.Plain.{format_tree}
use Rattle.hpf_map.specs.Uses.{format_name_breaches}
use Rattle.hpf_map.proofs.FoundLemmas.{each_seen_more}
use Rattle.hpf_map.proofs.uses.test_formats.Goals as goal

pub loop-format-preserved : goal.loop-format-preserved
loop-format-preserved c =
    each_seen_more format_tree (format_name_breaches c.args.names.now) c.args.formats.now c.loop-format.format-index c.format-item.result _ _ _
    c.loop-format-test.true c.format-item.is c.loop-format.invariant c.test_format.ensures
