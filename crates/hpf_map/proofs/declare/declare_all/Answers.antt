use Rattle.hpf_map.proofs.DeclareLemmas.{Threads-more}
use Rattle.hpf_map.proofs.declare.declare_all.Goals as goal

pub loop-declared-preserved : goal.loop-declared-preserved
loop-declared-preserved c =
    Threads-more c.declared-item.result c.declare.new.names c.declare.new.breaches c.loop-declared.invariant
    c.loop-declared-test.true c.declared-item.is c.in_ok-declare.ensures.names c.in_ok-declare.ensures.breaches
