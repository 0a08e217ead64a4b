use Rattle.std.proofs.Common.{◌≡◌, ℕ, ◌<◌, List, length, get_or, pos, ℤ, ap, ◌∙◌, arith, refl, subst, of_z, w64}
use Rattle.std.proofs.lemmas.List.{get_or_default}
use Rattle.std.proofs.lemmas.Bool.{false≢true}
use Rattle.hpf_num.proofs.Members.{place_stands, member_stands}
use Rattle.hpf_num.proofs.runs.Runs.rank.Goals as goal
use Rattle.hpf_num.proofs.runs.Runs.rank.Goals.{else-below-len-via-then-below-len+else-index-i, else-below-len-via-else-below-len}

pub returns-else-below-len-clause-member : goal.returns-else-below-len-clause-member
returns-else-below-len-clause-member c =
    let members = c.args.self.now in
    let i = c.args.i in
    let at = c.below-below.result in
    let e = c.below-below.ensures in
    let s = place_stands members i i at c.ranges.i refl e.members e.below e.others in (
      λ x. absurd (false≢true x),
      λ h.
          let there : get_or members h.0 (pos 0) ≡ i = get_or_default members h.0 (pos 0) i h.1 ∙ h.2 in
          let place = member_stands members i at h.0 s h.1 there in
          let same = ap (λ (xs : List ℤ). length xs) c.self.view_is in
          let inside : at < c.len.result = omega (arith, h.1, c.self.inside.members.ok.0) in
          elim c.else-below-len.branch [
            | else-below-len-via-then-below-len+else-index-i w ↦
                let is : w.index.result.now ≡ get_or members at w.index.result.now = w.index.ensures ∙ ap (λ (xs : List ℤ). get_or xs at w.index.result.now) c.self.view_is in
                let below : at < length members = omega (arith, h.1) in
                let here : get_or members at (pos 0) ≡ i = subst (λ (k : ℕ). get_or members k (pos 0) ≡ i) place there in
                absurd (w.if-index-i.false (ap (of_z w64) (is ∙ get_or_default members at w.index.result.now (pos 0) below ∙ here)))
            | else-below-len-via-else-below-len w ↦ let out = w.if-below-len.false in absurd (omega arith)
          ],
    )
