use Rattle.std.proofs.Common.{◌≡◌, ◌<◌, ◌≤◌, List, ℤ, [], length, get_or, All, refl, sym, ◌∙◌, subst, arith}
use Rattle.std.proofs.lemmas.List.{get_or_default, take_all}
use Rattle.std.proofs.lemmas.List.Elements.{All-more}
use Rattle.hpf_num.specs.Runs.{AreMembers}
use Rattle.hpf_own.proofs.held.have_members.Goals as goal

pub loop-side-preserved : goal.loop-side-preserved
loop-side-preserved c =
    let sides = c.args.sides.now in
    let k = c.loop-side.side-index in
    let below : k < length sides = omega arith in
    let at : get_or sides k [] ≡ c.side-item.result = get_or_default sides k [] c.side-item.result below ∙ sym c.side-item.is in
    let some : 1 ≤ length c.side-item.result = omega (arith, c.count.ensures.count) in (
      All-more (λ (xs : List ℤ). 1 ≤ length xs) sides k [] below c.loop-side.invariant.0 (subst (λ (xs : List ℤ). 1 ≤ length xs) (sym at) some),
      All-more AreMembers sides k [] below c.loop-side.invariant.1 (subst AreMembers (sym at) c.count.ensures.members),
    )

pub returns-clause-some : goal.returns-clause-some
returns-clause-some c = (
  λ t. subst (All (λ (xs : List ℤ). 1 ≤ length xs)) (take_all c.loop-side.side-index c.args.sides.now (omega arith)) c.loop-side.invariant.0,
  λ h. refl,
)

pub returns-clause-members : goal.returns-clause-members
returns-clause-members c =
    subst (All AreMembers) (take_all c.loop-side.side-index c.args.sides.now (omega arith)) c.loop-side.invariant.1
