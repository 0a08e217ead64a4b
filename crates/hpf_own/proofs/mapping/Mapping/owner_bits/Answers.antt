use Rattle.std.proofs.Common.{refl, ap, ◌∙◌, subst, arith}
use Rattle.hpf_own.specs.Lists.{IsSizes}
use Rattle.hpf_own.specs.Mapping.{PlainMapping, IsMapping}
use Rattle.hpf_own.proofs.Products.{count_bounds}
use Rattle.hpf_own.proofs.Sets.{so_far_none, so_far_more, so_far_all}
use Rattle.hpf_own.proofs.mapping.Mapping.owner_bits.Goals as goal

pub loop-e-init : goal.loop-e-init
loop-e-init c = so_far_none c.args.self.now.dims c.args.index.now c.as_slice-size-items.result.now

pub repeated-set-requires-clause-few : goal.repeated-set-requires-clause-few
repeated-set-requires-clause-few c =
    let sizes = c.as_slice-size-items.result.now in
    let are : IsSizes sizes = rw c.as_slice-size-items.ensures.same c.as_slice-size-items.ensures.sizes in
    (count_bounds sizes c.loop-e.e c.loop-e.stride _ (omega arith) c.loop-e.invariant.counted refl are.some are.few).1

pub overflow_mul-stride : goal.overflow_mul-stride
overflow_mul-stride c =
    let sizes = c.as_slice-size-items.result.now in
    let are : IsSizes sizes = rw c.as_slice-size-items.ensures.same c.as_slice-size-items.ensures.sizes in
    let b = count_bounds sizes c.loop-e.e c.loop-e.stride _ (omega arith) c.loop-e.invariant.counted refl are.some are.few in
    omega arith

pub loop-e-preserved : goal.loop-e-preserved
loop-e-preserved c =
    let sizes = c.as_slice-size-items.result.now in
    let are : IsSizes sizes = rw c.as_slice-size-items.ensures.same c.as_slice-size-items.ensures.sizes in
    so_far_more c.args.self.now.dims c.args.index.now sizes c.loop-e.e c.loop-e.stride c.loop-e.set _ c.repeated-set.result are (omega arith) refl c.loop-e.invariant c.repeated-set.ensures

pub returns-clause-owners : goal.returns-clause-owners
returns-clause-owners c =
    let m : IsMapping c.args.self.now = subst IsMapping c.self.view_is c.self.invariant.mapping in
    let same = c.as_slice-size-items.ensures.same ∙ ap (λ (m : PlainMapping). m.procs) c.self.view_is in
    so_far_all c.args.self.now c.args.index.now c.as_slice-size-items.result.now c.loop-e.e c.loop-e.stride c.loop-e.set m same (omega arith) c.loop-e.invariant

pub returns-clause-few : goal.returns-clause-few
returns-clause-few c =
    let m : IsMapping c.args.self.now = subst IsMapping c.self.view_is c.self.invariant.mapping in
    m.procs.few
