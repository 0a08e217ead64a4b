use Rattle.hpf_own.proofs.Leading.{IsLeading}
use Rattle.hpf_own.proofs.mapping.Mapping.sender.Given as goal

abbrev pub invariant-loop-e : goal.invariant-loop-e
invariant-loop-e l = IsLeading l.self.dims l.index l.size-items l.e l.stride l.number
