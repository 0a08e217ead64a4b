use Rattle.std.proofs.Common.{length}
use Rattle.hpf_map.proofs.alignments.+add_colons.Given as goal

abbrev pub decreases-add_colons : goal.decreases-add_colons
decreases-add_colons l = length l.sources.now
