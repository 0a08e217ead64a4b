use Rattle.std.proofs.Common.{◌≡◌, List, ℤ, ◌++◌, All, get_or, slice_get, Some, ap, sym, ◌∙◌, subst}
use Rattle.std.proofs.lemmas.Option.{get_or_from_slice_get}
use Rattle.hpf_num.specs.declared.run.Run.{Run}
use Rattle.hpf_num.specs.Run.{integers, LiesWithin}
use Rattle.hpf_own.specs.KeptLists.{no_run as no_bound}
use Rattle.hpf_own.specs.Mapping.{PlainMapping}
use Rattle.hpf_own.proofs.Order.{integers_only}
use Rattle.hpf_own.proofs.Parts.{narrowed_none, narrowed_more, narrowed_all}
use Rattle.hpf_own.proofs.mapping.Mapping.side.Goals as goal

pub loop-e-init : goal.loop-e-init
loop-e-init c =
    let m = c.args.self.now in
    let bounds = ap (λ (m : PlainMapping). m.bounds) c.self.view_is in
    let at : get_or m.bounds c.args.d no_bound ≡ c.at.result = get_or_from_slice_get m.bounds c.args.d c.at.result no_bound (subst (λ (bs : List Run). slice_get bs c.args.d ≡ Some c.at.result) bounds c.at.ensures.run) in
    let all : c.push.new.self ≡ integers c.at.result = c.in_ok-push.ensures.ok ∙ ap (λ (xs : List ℤ). xs ++ integers c.at.result) c.new-side.ensures in
    let is : c.push.new.self ≡ integers (get_or m.bounds c.args.d no_bound) = all ∙ ap integers (sym at) in
    let run = get_or m.bounds c.args.d no_bound in
    narrowed_none m c.args.p c.args.d c.as_slice-size-items.result.now c.push.new.self (subst (All (LiesWithin run)) (sym is) (integers_only run)) is

pub loop-e-preserved : goal.loop-e-preserved
loop-e-preserved c =
    narrowed_more c.args.self.now c.args.p c.args.d c.as_slice-size-items.result.now c.loop-e.e c.loop-e.rest c.loop-e.side c.in_ok-side.side c.loop-e-test.true c.loop-e.invariant c.in_ok-side.ensures

pub returns : goal.returns
returns c =
    let same = c.as_slice-size-items.ensures.same ∙ ap (λ (m : PlainMapping). m.procs) c.self.view_is in
    narrowed_all c.args.self.now c.args.p c.args.d c.as_slice-size-items.result.now c.loop-e.e c.loop-e.rest c.loop-e.side c.loop-e-test.false same c.loop-e.invariant

pub narrowed-requires-clause-within : goal.narrowed-requires-clause-within
narrowed-requires-clause-within c = c.loop-e.invariant.within
