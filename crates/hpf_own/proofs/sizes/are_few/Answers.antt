use Rattle.std.proofs.Common.{arith, rules}
use Rattle.hpf_own.proofs.Products.{count_more, count_bounds}
use Rattle.hpf_own.proofs.sizes.are_few.Goals as goal
use Rattle.hpf_own.proofs.sizes.are_few.Goals.{then-count-eq0-via-then-count-eq0, then-count-eq0-via-else-count-eq0+then-count}

pub returns-then-count-eq0 : goal.returns-then-count-eq0
returns-then-count-eq0 c = (
  λ t. absurd (search rules),
  λ h.
      let b = count_bounds c.args.sizes.now c.loop-size.size-index c.loop-size.count c.from-count.result (omega arith) c.loop-size.invariant (search rules) h.0 h.1 in
      elim c.then-count-eq0.branch [
        | then-count-eq0-via-then-count-eq0 w ↦ absurd (omega arith)
        | then-count-eq0-via-else-count-eq0+then-count w ↦ absurd (omega arith)
      ],
)

pub loop-size-preserved : goal.loop-size-preserved
loop-size-preserved c =
    count_more c.args.sizes.now c.loop-size.size-index c.loop-size.count c.from-count.result (omega arith) c.loop-size.invariant (search rules) c.if-count-eq0.false (omega arith)
