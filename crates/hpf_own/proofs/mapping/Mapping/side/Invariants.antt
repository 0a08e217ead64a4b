use Rattle.hpf_own.proofs.Parts.{IsNarrowed}
use Rattle.hpf_own.proofs.mapping.Mapping.side.Given as goal

abbrev pub invariant-loop-e : goal.invariant-loop-e
invariant-loop-e l = IsNarrowed l.self l.fn.p l.fn.d l.size-items l.e l.rest l.side
