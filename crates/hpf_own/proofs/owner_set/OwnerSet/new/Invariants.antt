use Rattle.std.proofs.Common.{◌-◌}
use Rattle.hpf_own.proofs.Taking.{AreTaken}
use Rattle.hpf_own.proofs.owner_set.OwnerSet.new.Given as goal
use Rattle.hpf_dist.specs.Limits.{processor_limit}

abbrev pub invariant-loop-p : goal.invariant-loop-p
invariant-loop-p l = AreTaken l.bits l.numbers l.count l.from

abbrev pub decreases-loop-p : goal.decreases-loop-p
decreases-loop-p l = processor_limit - l.from
