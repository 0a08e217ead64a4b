use Rattle.std.proofs.Common.{arith}
use Rattle.hpf_own.specs.KeptLists.{no_width}
use Rattle.hpf_own.proofs.Filling.{fill_more}
use Rattle.hpf_own.proofs.widths.Widths.new.Goals as goal

pub loop-d-preserved : goal.loop-d-preserved
loop-d-preserved c = fill_more no_width (record { low = 0; high = 0 }) c.loop-d.kept c.args.widths.now c.loop-d.d (omega arith) (omega arith) c.loop-d.invariant
