use Rattle.std.proofs.Common.{◌≡◌, ◌<◌, ◌≤◌, List, length, get_or, ℤ, ap, ◌∙◌, arith, refl}
use Rattle.std.proofs.lemmas.Bool.{le-ltb}
use Rattle.hpf_num.proofs.Members.{place_stands, small_at, has_tested, has_none}
use Rattle.hpf_num.proofs.runs.Runs.has.Goals as goal

pub returns-then-below-len : goal.returns-then-below-len
returns-then-below-len c =
    let members = c.args.self.now in
    let at = c.below-below.result in
    let e = c.below-below.ensures in
    let same = ap (λ (xs : List ℤ). length xs) c.self.view_is in
    let inside : at < length members = omega (arith, c.self.inside.members.ok.0) in
    let is : c.index.result.now ≡ get_or members at c.index.result.now = c.index.ensures ∙ ap (λ (xs : List ℤ). get_or xs at c.index.result.now) c.self.view_is in
    has_tested members c.args.i c.index.result.now at (place_stands members c.args.i c.args.i at c.ranges.i refl e.members e.below e.others) inside (small_at members at c.index.result.now e.members inside is) c.ranges.i is

pub returns-else-below-len : goal.returns-else-below-len
returns-else-below-len c =
    let members = c.args.self.now in
    let at = c.below-below.result in
    let e = c.below-below.ensures in
    let same = ap (λ (xs : List ℤ). length xs) c.self.view_is in
    let past : length members ≤ at = omega (arith, c.self.inside.members.ok.0) in
    le-ltb at c.len.result c.if-below-len.false
    ∙ has_none members c.args.i at (place_stands members c.args.i c.args.i at c.ranges.i refl e.members e.below e.others) past
