use Rattle.std.proofs.Common.{false, ap, sym, ◌∙◌, arith}
use Rattle.hpf_own.specs.Mapping.{PlainMapping}
use Rattle.hpf_own.proofs.Divider.{divider_is, divider_none}
use Rattle.hpf_own.proofs.Narrowing.{filter_constant}
use Rattle.hpf_own.proofs.mapping.Mapping.narrowed.Goals as goal

pub returns-then-is_over : goal.returns-then-is_over
returns-then-is_over c =
    let dims = ap (λ (m : PlainMapping). m.dims) c.self.view_is in
    let found = divider_is c.as_slice-dim-items.result.now c.args.self.now.dims c.args.e c.loop-dim.dim-index c.dim-item.result (c.as_slice-dim-items.ensures.same ∙ dims) (omega arith) c.dim-item.is c.loop-dim.invariant c.if-is_over.ensures in
    rw found c.narrowed.ensures

pub returns : goal.returns
returns c =
    let dims = ap (λ (m : PlainMapping). m.dims) c.self.view_is in
    let none = divider_none c.as_slice-dim-items.result.now c.args.self.now.dims c.args.e c.loop-dim.dim-index (c.as_slice-dim-items.ensures.same ∙ dims) (omega arith) c.loop-dim.invariant in
    rw none (c.new.ensures ∙ sym (filter_constant false c.args.side))
