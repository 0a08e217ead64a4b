use Rattle.std.proofs.Common.{arith}
use Rattle.hpf_gen.proofs.Sizes.{product_more, product_fits}
use Rattle.hpf_gen.proofs.generator.size_of.Goals as goal

pub overflow_mul-size : goal.overflow_mul-size
overflow_mul-size c =
    let most = product_fits c.args.extents.now c.loop-extent.extent-index 0 c.loop-extent.size c.loop-extent-test.true c.requires.positive c.loop-extent.invariant.so_far in
    record { fits = omega (arith, most, c.requires.within) }

pub loop-extent-preserved : goal.loop-extent-preserved
loop-extent-preserved c = record {
  so_far = product_more c.args.extents.now c.loop-extent.extent-index 0 c.loop-extent.size c.loop-extent-test.true c.loop-extent.invariant.so_far;
}
