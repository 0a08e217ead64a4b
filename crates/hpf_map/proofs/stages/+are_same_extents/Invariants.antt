use Rattle.std.proofs.Common.{length}
use Rattle.hpf_map.proofs.stages.+are_same_extents.Given as goal

abbrev pub decreases-are_same_extents : goal.decreases-are_same_extents
decreases-are_same_extents l = length l.before.now
