use Rattle.hpf_map.proofs.DeclareLemmas.{Threads-more}
use Rattle.hpf_map.proofs.constants.declare_constants.Goals as goal

pub loop-constant-preserved : goal.loop-constant-preserved
loop-constant-preserved c =
    Threads-more c.constant-item.result c.declare_constant.new.names c.declare_constant.new.breaches c.loop-constant.invariant
    c.loop-constant-test.true c.constant-item.is c.in_ok-declare_constant.ensures.names c.in_ok-declare_constant.ensures.breaches
