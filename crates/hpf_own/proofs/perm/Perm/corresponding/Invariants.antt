use Rattle.hpf_own.proofs.Correspondence.{AreMoved}
use Rattle.hpf_own.proofs.perm.Perm.corresponding.Given as goal

abbrev pub invariant-loop-d : goal.invariant-loop-d
invariant-loop-d l = AreMoved l.from l.to l.dim-items l.index l.into l.d
