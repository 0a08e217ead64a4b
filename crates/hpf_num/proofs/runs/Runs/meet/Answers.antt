use Rattle.std.proofs.Common.{◌≡◌, ℕ, ◌<◌, List, ℤ, take, get_or, length, All, pos, ◌<ℤ◌, to_z-of_z, subst, arith}
use Rattle.std.proofs.lemmas.List.{length-take, get_or-take, get_or_default}
use Rattle.std.proofs.lemmas.List.Elements.{All-filter}
use Rattle.hpf_num.specs.Runs.{AreMembers, has}
use Rattle.hpf_num.proofs.Members.{fits_small}
use Rattle.hpf_num.proofs.runs.Runs.meet.Goals as goal

-- members before a place are below the one there
before_it : (members : List ℤ) (at : ℕ) → AreMembers members → at < length members → All (λ j. j <ℤ get_or members at (pos 0)) (take at members)
before_it members at h below = λ k d less.
    let inside : k < at = omega (arith, length-take at members) in
    rw (get_or-take at members k d inside, get_or_default members k d (pos 0) (omega arith)) (h.ascending k at (pos 0) inside below)

pub keep-requires-clause-above : goal.keep-requires-clause-above
keep-requires-clause-above c =
    let members = c.self.inside.members.items in
    let at = c.loop-i.i-index in
    let v : c.as_slice-i-items.result.now ≡ members = c.as_slice-i-items.ensures.value in
    let inside : at < length members = subst (λ (xs : List ℤ). at < length xs) v c.loop-i-test.true in
    let f = fits_small _ (c.self.invariant.small at (pos 0) inside) in
    rw (v, to_z-of_z f, c.loop-i.invariant, ← c.self.view_is)
    (All-filter (has c.args.other.now) (λ j. j <ℤ get_or members at (pos 0)) (take at members) (before_it members at c.self.invariant inside))
