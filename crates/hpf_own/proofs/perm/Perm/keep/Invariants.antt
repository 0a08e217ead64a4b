use Rattle.hpf_own.proofs.Filling.{IsFilling}
use Rattle.hpf_own.proofs.perm.Perm.keep.Given as goal

abbrev pub invariant-loop-d : goal.invariant-loop-d
invariant-loop-d l = IsFilling 0 l.kept l.dims l.d
