use Rattle.hpf_own.proofs.Walking.{IsWrapped}
use Rattle.hpf_own.proofs.bounds.Bounds.next_index.Given as goal

abbrev pub invariant-loop-d : goal.invariant-loop-d
invariant-loop-d l = IsWrapped l.run-items l.fn.index l.d l.index
