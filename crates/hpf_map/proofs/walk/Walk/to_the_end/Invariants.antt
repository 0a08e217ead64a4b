use Rattle.std.proofs.Common.{length}
use Rattle.hpf_map.specs.Ends.{target}
use Rattle.hpf_map.specs.Ways.{step}
use Rattle.hpf_map.proofs.WalkLemmas.{IsLeft}
use Rattle.hpf_map.proofs.walk.Walk.to_the_end.Given as goal

abbrev pub invariant-loop-left : goal.invariant-loop-left
invariant-loop-left l = IsLeft (step l.ways) (length l.ways) l.left (target l.walk) (target l.stride)

abbrev pub decreases-loop-left : goal.decreases-loop-left
decreases-loop-left l = l.left
