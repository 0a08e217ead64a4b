use Rattle.hpf_map.proofs.DeclareLemmas.{Threads-more}
use Rattle.hpf_map.proofs.stages.test_lines.Goals as goal

pub loop-line-preserved : goal.loop-line-preserved
loop-line-preserved c =
    Threads-more c.line-item.result c.after_line-behind.result c.test_line.new.breaches c.loop-line.invariant
    c.loop-line-test.true c.line-item.is c.after_line-behind.ensures c.test_line.ensures
