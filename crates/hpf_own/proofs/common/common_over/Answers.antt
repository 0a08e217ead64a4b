use Rattle.std.proofs.Common.{refl, arith}
use Rattle.hpf_own.proofs.Divider.{divider_is}
use Rattle.hpf_own.proofs.common.common_over.Goals as goal

pub returns-then-is_over : goal.returns-then-is_over
returns-then-is_over c =
    let found = divider_is c.args.dims.now c.args.dims.now c.args.e c.loop-dim.dim-index c.dim-item.result refl (omega arith) c.dim-item.is c.loop-dim.invariant c.if-is_over.ensures in
    rw found c.common.ensures
