use Rattle.std.proofs.Common.{arith}
use Rattle.hpf_own.proofs.Filling.{fill_more}
use Rattle.hpf_own.proofs.perm.Perm.keep.Goals as goal

pub loop-d-preserved : goal.loop-d-preserved
loop-d-preserved c = fill_more 0 0 c.loop-d.kept c.args.dims.now c.loop-d.d (omega arith) (omega arith) c.loop-d.invariant
