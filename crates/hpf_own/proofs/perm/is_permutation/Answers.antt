use Rattle.std.proofs.Common.{◌≡◌, ℕ, ◌+◌, ◌-◌, true, false, length, Contains, below_more, refl, subst, arith, rules}
use Rattle.hpf_own.proofs.Perms.{has_decides, lacks_one, permutation_from}
use Rattle.hpf_own.proofs.perm.is_permutation.Goals as goal

pub returns-then-not-contains : goal.returns-then-not-contains
returns-then-not-contains c =
    let ys = c.args.dims.now in
    let none = has_decides ys (c.loop-dim.dim + 1) false c.if-not-contains.ensures.cases in
    (λ t. absurd (search rules), λ h. absurd (lacks_one ys c.loop-dim.dim (omega arith) none h))

pub loop-dim-preserved : goal.loop-dim-preserved
loop-dim-preserved c =
    let ys = c.args.dims.now in
    below_more _ _ c.loop-dim.invariant ((has_decides ys (c.loop-dim.dim + 1) true c.if-not-contains.ensures.cases).0 refl)

pub returns : goal.returns
returns c =
    let ys = c.args.dims.now in (
      λ t. permutation_from (length ys) 1 ys refl
          (λ x low high. subst (λ (y : ℕ). Contains ys y) (let e : (x - 1) + 1 ≡ x = omega arith in e) (c.loop-dim.invariant (x - 1) (omega arith))),
      λ h. search rules,
    )
