use Rattle.hpf_map.proofs.ShadowLemmas.{shadow_uses_more}
use Rattle.hpf_map.proofs.shadows.shadow_uses.Goals as goal

pub loop-statement-preserved : goal.loop-statement-preserved
loop-statement-preserved c =
    shadow_uses_more c.args.names.now c.args.items.now c.loop-statement.statement c.index-items-statement.result _ _
    c.loop-statement-test.true c.index-items-statement.is c.loop-statement.invariant c.in_ok-add_statement_uses.ensures
