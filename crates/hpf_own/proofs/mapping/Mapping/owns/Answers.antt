use Rattle.std.proofs.Common.{◌≡◌, ℕ, ◌+◌, ◌/◌, ◌<◌, Bool, true, false, ◌&&◌, List, [], get_or, drop, ℤ, refl, sym, ap, ◌∙◌, subst, arith}
use Rattle.std.proofs.Common.{length-drop}
use Rattle.std.proofs.lemmas.List.{nil_from_length}
use Rattle.std.proofs.lemmas.Bool.{and_left}
use Rattle.hpf_own.specs.Space.{product}
use Rattle.hpf_own.specs.Mapping.{PlainMapping, IsMapping}
use Rattle.hpf_own.specs.Owners.{holds, owns}
use Rattle.hpf_own.proofs.Digits.{passes, passes-drop}
use Rattle.hpf_own.proofs.Each.{owns-passes}
use Rattle.hpf_own.proofs.mapping.Mapping.owns.Goals as goal

owns_is : (m : PlainMapping) (items : List ℕ) (p : ℕ) (index : List ℤ) (b : Bool) → IsMapping m → p < product m.procs → items ≡ m.procs → passes items (holds m.dims index) p ≡ b → b ≡ owns m p index
owns_is m items p index b is below same h =
    sym h ∙ ap (λ (sizes : List ℕ). passes sizes (holds m.dims index) p) same ∙ sym (owns-passes m p index is.dims below)

pub returns-then-not-holds : goal.returns-then-not-holds
returns-then-not-holds c =
    let m : IsMapping c.args.self.now = subst IsMapping c.self.view_is c.self.invariant.mapping in
    let sizes = c.as_slice-size-items.result.now in
    let same = c.as_slice-size-items.ensures.same ∙ ap (λ (m : PlainMapping). m.procs) c.self.view_is in
    let step = passes-drop sizes (holds c.args.self.now.dims c.args.index.now) c.loop-e.e c.loop-e.rest (omega arith) in
    let is = c.if-not-holds.ensures in
    owns_is c.args.self.now sizes c.args.p c.args.index.now false m c.requires.proc same (c.loop-e.invariant ∙ step ∙ and_left _ _ (sym is))

pub loop-e-preserved : goal.loop-e-preserved
loop-e-preserved c =
    let sizes = c.as_slice-size-items.result.now in
    let step = passes-drop sizes (holds c.args.self.now.dims c.args.index.now) c.loop-e.e c.loop-e.rest (omega arith) in
    let is = c.if-not-holds.ensures in
    c.loop-e.invariant ∙ step ∙ ap (λ (b : Bool). b && passes (drop (c.loop-e.e + 1) sizes) (λ j. holds c.args.self.now.dims c.args.index.now (c.loop-e.e + 1 + j)) (c.loop-e.rest / get_or sizes c.loop-e.e 0)) (sym is)

pub returns : goal.returns
returns c =
    let m : IsMapping c.args.self.now = subst IsMapping c.self.view_is c.self.invariant.mapping in
    let sizes = c.as_slice-size-items.result.now in
    let same = c.as_slice-size-items.ensures.same ∙ ap (λ (m : PlainMapping). m.procs) c.self.view_is in
    let end : drop c.loop-e.e sizes ≡ [] = nil_from_length _ (omega (arith, length-drop c.loop-e.e sizes)) in
    owns_is c.args.self.now sizes c.args.p c.args.index.now true m c.requires.proc same (c.loop-e.invariant ∙ rw end refl)
