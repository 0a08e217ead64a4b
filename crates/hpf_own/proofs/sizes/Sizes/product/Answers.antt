use Rattle.std.proofs.Common.{refl, arith}
use Rattle.hpf_own.specs.Lists.{IsSizes}
use Rattle.hpf_own.proofs.Products.{count_more, count_bounds}
use Rattle.hpf_own.proofs.sizes.Sizes.product.Goals as goal

pub overflow_mul-count : goal.overflow_mul-count
overflow_mul-count c =
    let sizes = c.as_slice-size-items.result.now in
    let are : IsSizes sizes = rw c.as_slice-size-items.ensures.same c.as_slice-size-items.ensures.sizes in
    let b = count_bounds sizes c.loop-size.size-index c.loop-size.count _ (omega arith) c.loop-size.invariant refl are.some are.few in
    omega arith

pub loop-size-preserved : goal.loop-size-preserved
loop-size-preserved c =
    let sizes = c.as_slice-size-items.result.now in
    let are : IsSizes sizes = rw c.as_slice-size-items.ensures.same c.as_slice-size-items.ensures.sizes in
    let b = count_bounds sizes c.loop-size.size-index c.loop-size.count _ (omega arith) c.loop-size.invariant refl are.some are.few in
    count_more sizes c.loop-size.size-index c.loop-size.count _ (omega arith) c.loop-size.invariant refl (λ e. omega arith) b.1
