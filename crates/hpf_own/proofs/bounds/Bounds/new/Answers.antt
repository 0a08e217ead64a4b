use Rattle.std.proofs.Common.{arith, pos}
use Rattle.hpf_own.specs.KeptLists.{no_run}
use Rattle.hpf_own.proofs.Filling.{fill_more}
use Rattle.hpf_own.proofs.bounds.Bounds.new.Goals as goal

pub loop-d-preserved : goal.loop-d-preserved
loop-d-preserved c = fill_more no_run (record { low = pos 0; high = pos 0 }) c.loop-d.kept c.args.runs.now c.loop-d.d (omega arith) (omega arith) c.loop-d.invariant
