use Rattle.hpf_own.proofs.Products.{IsCounted}
use Rattle.hpf_own.proofs.sizes.are_few.Given as goal

abbrev pub invariant-loop-size : goal.invariant-loop-size
invariant-loop-size l = IsCounted l.sizes l.size-index l.count
