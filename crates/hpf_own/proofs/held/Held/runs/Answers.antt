use Rattle.std.proofs.Common.{◌≡◌, ◌<◌, ◌↔◌, ℤ, List, [], length, get_or, Contains, ap, sym, ◌∙◌, arith, subst, refl}
use Rattle.std.proofs.lemmas.List.{get_or_default}
use Rattle.std.proofs.lemmas.Option.{slice_get_read}
use Rattle.hpf_own.specs.Image.{subscript}
use Rattle.hpf_own.specs.Held.{Part, IsMadeOf}
use Rattle.hpf_own.proofs.Standing.{standing}
use Rattle.hpf_own.proofs.held.Held.runs.Goals as goal

pub returns-clause-standing : goal.returns-clause-standing
returns-clause-standing c =
    let part = c.args.self.now in
    let sides = c.self.inside.sides.items in
    let d = c.args.d in
    let rank : part.rank ≡ length sides = sym (ap (λ (p : Part). p.rank) c.self.view_is) in
    let made : IsMadeOf part sides = record { rank = rank; every = sym (ap (λ (p : Part). p.indices) c.self.view_is); members = c.self.invariant.members; all_or_none = c.self.invariant.all_or_none } in
    let below : d < length sides = omega (arith, c.requires) in
    let at : get_or sides d [] ≡ c.index.result.now = get_or_default sides d [] c.index.result.now below ∙ sym c.index.ensures in
    λ i. subst (λ (xs : List ℤ). Contains xs i ↔ ((index : List ℤ) × Contains part.indices index × (subscript index d ≡ i))) at (standing part sides d i made below)

pub returns-clause-made : goal.returns-clause-made
returns-clause-made c =
    let part = c.args.self.now in
    let sides = c.self.inside.sides.items in
    let rank : part.rank ≡ length sides = sym (ap (λ (p : Part). p.rank) c.self.view_is) in
    let made : IsMadeOf part sides = record { rank = rank; every = sym (ap (λ (p : Part). p.indices) c.self.view_is); members = c.self.invariant.members; all_or_none = c.self.invariant.all_or_none } in
    let below : c.args.d < length sides = omega (arith, c.requires) in
    (sides, made, slice_get_read sides (length sides) c.args.d c.index.result.now refl below c.index.ensures)
