use Rattle.std.proofs.Common.{length}
use Rattle.hpf_map.proofs.alignments.+dummy_from.Given as goal

abbrev pub decreases-dummy_from : goal.decreases-dummy_from
decreases-dummy_from l = length l.sources.now
