use Rattle.std.proofs.Common.{length}
use Rattle.hpf_map.proofs.alignments.+arrange.Given as goal

abbrev pub decreases-arrange : goal.decreases-arrange
decreases-arrange l = length l.subs.now
