use Rattle.std.proofs.Common.{ap, sym, ◌∙◌, subst, arith}
use Rattle.hpf_own.specs.declared.image.BaseDim.{BaseDim}
use Rattle.hpf_own.specs.Mapping.{PlainMapping, IsMapping, divides}
use Rattle.hpf_own.proofs.Divider.{asked, divider_is, divider_none, least_found}
use Rattle.hpf_own.proofs.Each.{no_dim}
use Rattle.hpf_own.proofs.Only.{found}
use Rattle.hpf_own.specs.Common.{IsKeptMapping}
use Rattle.hpf_own.proofs.Steady.{kept_are}
use Rattle.hpf_own.proofs.mapping.Mapping.least.Goals as goal

pub returns-in-Some-clause-least : goal.returns-in-Some-clause-least
returns-in-Some-clause-least c =
    let is = subst (λ (m : PlainMapping). IsKeptMapping m c.self.inside.common) c.self.view_is c.self.invariant in
    let kept = kept_are c.args.self.now c.self.inside.common c.args.index.now c.args.e c.in-Some.common is c.requires.dimension c.in-Some.is in
    kept.least

pub returns-in-Some-clause-below : goal.returns-in-Some-clause-below
returns-in-Some-clause-below c =
    let is = subst (λ (m : PlainMapping). IsKeptMapping m c.self.inside.common) c.self.view_is c.self.invariant in
    let kept = kept_are c.args.self.now c.self.inside.common c.args.index.now c.args.e c.in-Some.common is c.requires.dimension c.in-Some.is in
    kept.below

pub least-requires-clause-positions : goal.least-requires-clause-positions
least-requires-clause-positions c =
    let m : IsMapping c.args.self.now = subst IsMapping c.self.view_is c.self.invariant.mapping in
    let dims = ap (λ (m : PlainMapping). m.dims) c.self.view_is in
    asked c.args.self.now c.as_slice-dim-items.result.now c.args.index.now c.loop-dim.dim-index c.dim-item.result m c.requires.index (c.as_slice-dim-items.ensures.same ∙ dims) (omega arith) c.dim-item.is

pub returns-then-is_over-clause-least : goal.returns-then-is_over-clause-least
returns-then-is_over-clause-least c =
    let dims = ap (λ (m : PlainMapping). m.dims) c.self.view_is in
    let found = divider_is c.as_slice-dim-items.result.now c.args.self.now.dims c.args.e c.loop-dim.dim-index c.dim-item.result (c.as_slice-dim-items.ensures.same ∙ dims) (omega arith) c.dim-item.is c.loop-dim.invariant c.if-is_over.ensures in
    least_found c.args.self.now.dims c.args.index.now c.args.e c.dim-item.result c.least.result found c.least.ensures.least

pub unreachable-requires : goal.unreachable-requires
unreachable-requires c =
    let m : IsMapping c.args.self.now = subst IsMapping c.self.view_is c.self.invariant.mapping in
    let dims = ap (λ (m : PlainMapping). m.dims) c.self.view_is in
    let none = divider_none c.as_slice-dim-items.result.now c.args.self.now.dims c.args.e c.loop-dim.dim-index (c.as_slice-dim-items.ensures.same ∙ dims) (omega arith) c.loop-dim.invariant in
    let f = found (λ (d : BaseDim). divides c.args.e d.cut) c.args.self.now.dims no_dim (omega (arith, m.dims.each_once c.args.e c.requires.dimension)) in
    absurd (let e = sym none ∙ f.is in cc)
