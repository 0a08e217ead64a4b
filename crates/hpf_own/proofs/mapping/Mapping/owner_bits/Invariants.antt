use Rattle.hpf_own.proofs.Sets.{IsSoFar}
use Rattle.hpf_own.proofs.mapping.Mapping.owner_bits.Given as goal

abbrev pub invariant-loop-e : goal.invariant-loop-e
invariant-loop-e l = IsSoFar l.self.dims l.index l.size-items l.e l.stride l.set
