use Rattle.hpf_own.proofs.Filling.{IsFilling}
use Rattle.hpf_own.proofs.sizes.Sizes.new.Given as goal

abbrev pub invariant-loop-d : goal.invariant-loop-d
invariant-loop-d l = IsFilling 0 l.kept l.sizes l.d
