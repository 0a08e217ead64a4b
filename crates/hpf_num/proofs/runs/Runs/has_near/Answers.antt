use Rattle.std.proofs.Common.{◌≡◌, ℕ, ◌<◌, ◌≤◌, List, length, get_or, pos, ℤ, ◌+ℤ◌, ◌-ℤ◌, FitsSigned, to_z, of_z, w64, to_z-of_z, ap, ◌∙◌, arith}
use Rattle.std.proofs.lemmas.Bool.{le-ltb}
use Rattle.std.proofs.lemmas.Int.{ints}
use Rattle.hpf_num.specs.Runs.{IsSmall}
use Rattle.hpf_num.proofs.Members.{place_stands, small_at, near_tested, near_none}
use Rattle.hpf_num.proofs.runs.Runs.has_near.Goals as goal
use Rattle.hpf_num.specs.Limits.{integer_limit}

lowered : (i : ℤ) (n : ℕ) → IsSmall i → n ≤ integer_limit → FitsSigned w64 (to_z w64 (of_z w64 i) -ℤ to_z w64 n)
lowered i n h k = omega (arith, ints)

lowered_is : (i : ℤ) (n : ℕ) → IsSmall i → n ≤ integer_limit → (to_z w64 (of_z w64 i) -ℤ to_z w64 n) ≡ (i -ℤ pos n)
lowered_is i n h k = omega (arith, ints)

raised_is : (i : ℤ) (n : ℕ) → IsSmall i → n ≤ integer_limit → to_z w64 (of_z w64 (to_z w64 (of_z w64 i) +ℤ to_z w64 n)) ≡ (i +ℤ pos n)
raised_is i n h k = omega (arith, ints)

pub returns-then-below-len : goal.returns-then-below-len
returns-then-below-len c =
    let members = c.args.self.now in
    let i = c.args.i in
    let low = c.args.low in
    let high = c.args.high in
    let at = c.below-below.result in
    let e = c.below-below.ensures in
    let same = ap (λ (xs : List ℤ). length xs) c.self.view_is in
    let inside : at < length members = omega (arith, c.self.inside.members.ok.0) in
    let is : c.index.result.now ≡ get_or members at c.index.result.now = c.index.ensures ∙ ap (λ (xs : List ℤ). get_or xs at c.index.result.now) c.self.view_is in
    let s = place_stands members _ (i -ℤ pos high) at (lowered i high c.requires.small c.requires.high) (lowered_is i high c.requires.small c.requires.high) e.members e.below e.others in
    rw (to_z-of_z (small_at members at c.index.result.now e.members inside is), raised_is i low c.requires.small c.requires.low)
    (near_tested members i c.index.result.now low high at s inside is)

pub returns-else-below-len : goal.returns-else-below-len
returns-else-below-len c =
    let members = c.args.self.now in
    let i = c.args.i in
    let high = c.args.high in
    let at = c.below-below.result in
    let e = c.below-below.ensures in
    let same = ap (λ (xs : List ℤ). length xs) c.self.view_is in
    let past : length members ≤ at = omega (arith, c.self.inside.members.ok.0) in
    let s = place_stands members _ (i -ℤ pos high) at (lowered i high c.requires.small c.requires.high) (lowered_is i high c.requires.small c.requires.high) e.members e.below e.others in
    le-ltb at c.len.result c.if-below-len.false ∙ near_none members i c.args.low high at s past
