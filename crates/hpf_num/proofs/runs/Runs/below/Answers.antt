use Rattle.std.proofs.Common.{◌≡◌, ℕ, ◌+◌, ◌-◌, ◌/◌, ◌<◌, ◌≤◌, List, length, get_or, pos, ℤ, ◌≤ℤ◌, ◌<ℤ◌, FitsSigned, to_z, of_z, w64, to_z-of_z, true, false, arith, subst, sym}
use Rattle.std.specs.Int.RustNames.{int_lt}
use Rattle.std.proofs.lemmas.Int.{ints}
use Rattle.std.proofs.lemmas.List.{get_or_default}
use Rattle.hpf_num.specs.Runs.{AreMembers, IsSmall}
use Rattle.hpf_num.proofs.Members.{upto, fits_small}
use Rattle.hpf_num.proofs.runs.Runs.below.Goals as goal

-- what is found at a place holds up to it
below_it : (members : List ℤ) (i x : ℤ) (m k : ℕ) → AreMembers members → FitsSigned w64 x → m < length members → x ≡ get_or members m x → int_lt (to_z w64 (of_z w64 x)) i ≡ true → k < m + 1 → get_or members k (pos 0) <ℤ i
below_it members i x m k h f below is less order =
    let here = get_or_default members m x (pos 0) below in
    let u = upto members m k h.ascending below (omega arith) in
    let t = to_z-of_z f in
    grind (arith, ints)

-- or from it on
from_it : (members : List ℤ) (i x : ℤ) (m k : ℕ) → AreMembers members → FitsSigned w64 x → k < length members → m < length members → x ≡ get_or members m x → int_lt (to_z w64 (of_z w64 x)) i ≡ false → m ≤ k → i ≤ℤ get_or members k (pos 0)
from_it members i x m k h f within below is most order =
    let here = get_or_default members m x (pos 0) below in
    let u = upto members k m h.ascending within order in
    let t = to_z-of_z f in
    grind (arith, ints)

pub loop-low-preserved-then-index-i : goal.loop-low-preserved-then-index-i
loop-low-preserved-then-index-i c =
    let items = c.self.inside.members.items in
    let m = c.loop-low.low + (c.loop-low.high - c.loop-low.low) / 2 in
    let inside : m < length items = omega arith in
    let f = fits_small _ (subst IsSmall (sym c.index.ensures) (c.self.invariant.small m c.index.result.now inside)) in
    record {
      order = omega arith;
      within = omega arith;
      below = λ k less. below_it items _ c.index.result.now m k c.self.invariant f inside c.index.ensures c.if-index-i.true less;
      others = c.loop-low.invariant.others;
    }

pub loop-low-preserved : goal.loop-low-preserved
loop-low-preserved c =
    let items = c.self.inside.members.items in
    let m = c.loop-low.low + (c.loop-low.high - c.loop-low.low) / 2 in
    let inside : m < length items = omega arith in
    let f = fits_small _ (subst IsSmall (sym c.index.ensures) (c.self.invariant.small m c.index.result.now inside)) in
    record {
      order = omega arith;
      within = omega arith;
      below = c.loop-low.invariant.below;
      others = λ k most within. from_it items _ c.index.result.now m k c.self.invariant f within inside c.index.ensures c.if-index-i.false most;
    }
