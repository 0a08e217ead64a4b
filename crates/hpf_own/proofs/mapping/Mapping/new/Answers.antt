use Rattle.std.proofs.Common.{ℕ, List, length, ap, arith}
use Rattle.hpf_own.proofs.Steady.{may_be_steady, common_none, common_more}
use Rattle.hpf_own.proofs.mapping.Mapping.new.Goals as goal

pub loop-e-init : goal.loop-e-init
loop-e-init c = common_none c.args.dims

pub common_over-requires : goal.common_over-requires
common_over-requires c =
    rw c.as_slice-in-loop-e.ensures.same (may_be_steady c.args.bounds c.args.dims c.args.procs c.as_slice.ensures.bounds c.requires.dims)

pub loop-e-preserved : goal.loop-e-preserved
loop-e-preserved c =
    let few = c.as_slice-e-end.ensures.sizes.short.few in
    let same = ap (λ (sizes : List ℕ). length sizes) c.as_slice-e-end.ensures.same in
    common_more c.args.dims c.loop-e.common c.loop-e.e c.common_over.result (omega arith) c.loop-e.invariant (rw c.as_slice-in-loop-e.ensures.same at c.common_over.ensures)
