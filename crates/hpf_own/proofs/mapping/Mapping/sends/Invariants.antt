use Rattle.hpf_own.proofs.Sends.{IsLedSoFar}
use Rattle.hpf_own.proofs.mapping.Mapping.sends.Given as goal

abbrev pub invariant-loop-e : goal.invariant-loop-e
invariant-loop-e l = IsLedSoFar l.self l.p l.size-items l.e l.rest
