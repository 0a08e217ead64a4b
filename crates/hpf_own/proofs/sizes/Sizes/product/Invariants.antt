use Rattle.hpf_own.proofs.Products.{IsCounted}
use Rattle.hpf_own.proofs.sizes.Sizes.product.Given as goal

abbrev pub invariant-loop-size : goal.invariant-loop-size
invariant-loop-size l = IsCounted l.size-items l.size-index l.count
