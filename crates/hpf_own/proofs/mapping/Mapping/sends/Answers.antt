use Rattle.std.proofs.Common.{ap, ◌∙◌, subst, rules, arith}
use Rattle.hpf_own.specs.Mapping.{PlainMapping, IsMapping}
use Rattle.hpf_own.proofs.Sends.{led_none, led_more, led_all, led_stop}
use Rattle.hpf_own.proofs.mapping.Mapping.sends.Goals as goal

pub loop-e-init : goal.loop-e-init
loop-e-init c = led_none c.args.self.now c.args.p c.as_slice-size-items.result.now

pub returns-then-not-leads : goal.returns-then-not-leads
returns-then-not-leads c =
    let m : IsMapping c.args.self.now = subst IsMapping c.self.view_is c.self.invariant.mapping in
    let same = c.as_slice-size-items.ensures.same ∙ ap (λ (m : PlainMapping). m.procs) c.self.view_is in
    led_stop c.args.self.now c.args.p c.as_slice-size-items.result.now c.loop-e.e c.loop-e.rest m c.requires same (omega arith) c.loop-e.invariant (λ l. absurd (let z = c.if-not-leads.ensures.1 l in search rules))

pub loop-e-preserved : goal.loop-e-preserved
loop-e-preserved c =
    led_more c.args.self.now c.args.p c.as_slice-size-items.result.now c.loop-e.e c.loop-e.rest (omega arith) c.loop-e.invariant (c.if-not-leads.ensures.0 (search rules))

pub returns : goal.returns
returns c =
    let m : IsMapping c.args.self.now = subst IsMapping c.self.view_is c.self.invariant.mapping in
    let same = c.as_slice-size-items.ensures.same ∙ ap (λ (m : PlainMapping). m.procs) c.self.view_is in
    led_all c.args.self.now c.args.p c.as_slice-size-items.result.now c.loop-e.e c.loop-e.rest m c.requires same (omega arith) c.loop-e.invariant
