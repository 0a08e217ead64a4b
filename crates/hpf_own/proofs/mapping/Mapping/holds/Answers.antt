use Rattle.std.proofs.Common.{refl, slice_index, ap, ◌∙◌, subst, arith}
use Rattle.hpf_own.specs.Mapping.{PlainMapping, IsMapping}
use Rattle.hpf_own.proofs.Divider.{asked, divider_is, divider_none}
use Rattle.hpf_own.specs.Owners.{holds}
use Rattle.hpf_own.specs.Common.{IsKeptMapping}
use Rattle.hpf_own.proofs.Products.{product-one}
use Rattle.hpf_own.proofs.Steady.{kept_are, bit_is}
use Rattle.hpf_own.proofs.mapping.Mapping.holds.Goals as goal

pub has-requires : goal.has-requires
has-requires c =
    let m : IsMapping c.args.self.now = subst IsMapping c.self.view_is c.self.invariant.mapping in
    omega (arith, product-one c.args.self.now.procs c.args.e m.procs.some c.requires.dimension, m.procs.few, c.requires.coordinate)

pub returns-in-Some : goal.returns-in-Some
returns-in-Some c =
    let is = subst (λ (m : PlainMapping). IsKeptMapping m c.self.inside.common) c.self.view_is c.self.invariant in
    let kept = kept_are c.args.self.now c.self.inside.common c.args.index.now c.args.e c.in-Some.common is c.requires.dimension c.in-Some.is in
    c.has.ensures ∙ bit_is (holds c.args.self.now.dims c.args.index.now c.args.e) (slice_index c.args.self.now.procs c.args.e) c.in-Some.common.set c.args.c c.requires.coordinate kept.set

pub holds-requires : goal.holds-requires
holds-requires c =
    let m : IsMapping c.args.self.now = subst IsMapping c.self.view_is c.self.invariant.mapping in
    let dims = ap (λ (m : PlainMapping). m.dims) c.self.view_is in
    asked c.args.self.now c.as_slice-dim-items.result.now c.args.index.now c.loop-dim.dim-index c.dim-item.result m c.requires.index (c.as_slice-dim-items.ensures.same ∙ dims) (omega arith) c.dim-item.is

pub returns-then-is_over : goal.returns-then-is_over
returns-then-is_over c =
    let dims = ap (λ (m : PlainMapping). m.dims) c.self.view_is in
    let found = divider_is c.as_slice-dim-items.result.now c.args.self.now.dims c.args.e c.loop-dim.dim-index c.dim-item.result (c.as_slice-dim-items.ensures.same ∙ dims) (omega arith) c.dim-item.is c.loop-dim.invariant c.if-is_over.ensures in
    rw found c.holds.ensures

pub returns : goal.returns
returns c =
    let dims = ap (λ (m : PlainMapping). m.dims) c.self.view_is in
    let none = divider_none c.as_slice-dim-items.result.now c.args.self.now.dims c.args.e c.loop-dim.dim-index (c.as_slice-dim-items.ensures.same ∙ dims) (omega arith) c.loop-dim.invariant in
    rw none refl
