use Rattle.std.proofs.Common.{ap, sym, ◌∙◌, subst, rules, arith}
use Rattle.hpf_own.specs.Mapping.{PlainMapping, IsMapping}
use Rattle.hpf_own.proofs.Leading.{lead_step, leading_is}
use Rattle.hpf_own.proofs.mapping.Mapping.sender.Goals as goal

pub overflow_mul-number : goal.overflow_mul-number
overflow_mul-number c =
    let m : IsMapping c.args.self.now = subst IsMapping c.self.view_is c.self.invariant.mapping in
    let same = c.as_slice-size-items.ensures.same ∙ ap (λ (m : PlainMapping). m.procs) c.self.view_is in
    let next = lead_step c.args.self.now c.args.index.now c.as_slice-size-items.result.now c.loop-e.e c.loop-e.stride c.loop-e.number c.least.result m same (search rules) c.loop-e.invariant c.least.ensures.least c.least.ensures.below in
    omega (arith, next.below, next.counted.few)

pub overflow_add-number : goal.overflow_add-number
overflow_add-number c =
    let m : IsMapping c.args.self.now = subst IsMapping c.self.view_is c.self.invariant.mapping in
    let same = c.as_slice-size-items.ensures.same ∙ ap (λ (m : PlainMapping). m.procs) c.self.view_is in
    let next = lead_step c.args.self.now c.args.index.now c.as_slice-size-items.result.now c.loop-e.e c.loop-e.stride c.loop-e.number c.least.result m same (search rules) c.loop-e.invariant c.least.ensures.least c.least.ensures.below in
    omega (arith, next.below, next.counted.few)

pub overflow_mul-stride : goal.overflow_mul-stride
overflow_mul-stride c =
    let m : IsMapping c.args.self.now = subst IsMapping c.self.view_is c.self.invariant.mapping in
    let same = c.as_slice-size-items.ensures.same ∙ ap (λ (m : PlainMapping). m.procs) c.self.view_is in
    let next = lead_step c.args.self.now c.args.index.now c.as_slice-size-items.result.now c.loop-e.e c.loop-e.stride c.loop-e.number c.least.result m same (search rules) c.loop-e.invariant c.least.ensures.least c.least.ensures.below in
    omega (arith, next.counted.few)

pub loop-e-preserved : goal.loop-e-preserved
loop-e-preserved c =
    let m : IsMapping c.args.self.now = subst IsMapping c.self.view_is c.self.invariant.mapping in
    let same = c.as_slice-size-items.ensures.same ∙ ap (λ (m : PlainMapping). m.procs) c.self.view_is in
    lead_step c.args.self.now c.args.index.now c.as_slice-size-items.result.now c.loop-e.e c.loop-e.stride c.loop-e.number c.least.result m same (search rules) c.loop-e.invariant c.least.ensures.least c.least.ensures.below

pub returns-clause-sender : goal.returns-clause-sender
returns-clause-sender c =
    let m : IsMapping c.args.self.now = subst IsMapping c.self.view_is c.self.invariant.mapping in
    let same = c.as_slice-size-items.ensures.same ∙ ap (λ (m : PlainMapping). m.procs) c.self.view_is in
    sym (leading_is c.args.self.now c.args.index.now c.as_slice-size-items.result.now c.loop-e.e c.loop-e.stride c.loop-e.number m same (omega arith) c.loop-e.invariant).1.1

pub returns-clause-owner : goal.returns-clause-owner
returns-clause-owner c =
    let m : IsMapping c.args.self.now = subst IsMapping c.self.view_is c.self.invariant.mapping in
    let same = c.as_slice-size-items.ensures.same ∙ ap (λ (m : PlainMapping). m.procs) c.self.view_is in
    (leading_is c.args.self.now c.args.index.now c.as_slice-size-items.result.now c.loop-e.e c.loop-e.stride c.loop-e.number m same (omega arith) c.loop-e.invariant).1.0

pub returns-clause-below : goal.returns-clause-below
returns-clause-below c =
    let m : IsMapping c.args.self.now = subst IsMapping c.self.view_is c.self.invariant.mapping in
    let same = c.as_slice-size-items.ensures.same ∙ ap (λ (m : PlainMapping). m.procs) c.self.view_is in
    (leading_is c.args.self.now c.args.index.now c.as_slice-size-items.result.now c.loop-e.e c.loop-e.stride c.loop-e.number m same (omega arith) c.loop-e.invariant).0
