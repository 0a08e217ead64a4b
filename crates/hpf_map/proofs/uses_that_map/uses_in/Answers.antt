use Rattle.hpf_map.proofs.WayLemmas.{uses_more}
use Rattle.hpf_map.proofs.uses_that_map.uses_in.Goals as goal

pub loop-statement-preserved : goal.loop-statement-preserved
loop-statement-preserved c =
    uses_more c.args.names.now c.args.items.now c.loop-statement.statement c.index-items-statement.result _ _
    c.loop-statement-test.true c.index-items-statement.is c.loop-statement.invariant c.in_ok-add_statement_uses.ensures
