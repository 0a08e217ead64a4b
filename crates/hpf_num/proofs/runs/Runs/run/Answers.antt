use Rattle.std.proofs.Common.{◌≡◌, ℕ, ◌+◌, ◌-◌, ◌<◌, ◌≤◌, List, length, ℤ, get_or, Some, pos, ◌+ℤ◌, ◌-ℤ◌, ◌≤ℤ◌, to_z-of_z, ap, sym, ◌∙◌, arith, subst}
use Rattle.std.proofs.lemmas.Int.{ints}
use Rattle.std.proofs.lemmas.List.{get_or_default}
use Rattle.hpf_num.specs.Run.{or_zero}
use Rattle.hpf_num.specs.Runs.{AreMembers, IsStart, IsLast, IsRunAt}
use Rattle.hpf_num.proofs.Members.{small_at, has_at, or_zero_is}
use Rattle.hpf_num.proofs.runs.Runs.run.Goals as goal

place_of : (low i : ℤ) (n : ℕ) → low ≤ℤ i → i ≤ℤ (low +ℤ pos n) → (k : ℕ) × (k ≤ n) × (i ≡ (low +ℤ pos k))
place_of low i n h k =
    let is : pos (or_zero (i -ℤ low)) ≡ (i -ℤ low) = or_zero_is (i -ℤ low) (omega (arith, ints)) in
    (or_zero (i -ℤ low), omega (arith, ints), omega (arith, ints))

is_run : (members : List ℤ) (number first last : ℕ) (low high : ℤ) → IsStart members number first → IsLast members first last → low ≡ get_or members first (pos 0) → high ≡ get_or members last (pos 0) → IsRunAt members number (record { low = low; high = high })
is_run members number first last low high start l a b =
    let f = l.follow last l.order (omega arith) in
    record {
      begins = start.start ∙ ap (λ (z : ℤ). Some z) (sym a);
      order = omega (arith, ints);
      within = λ i w.
          let p = place_of low i (last - first) w.least (let g = w.greatest in omega (arith, ints)) in
          let below : first + p.0 < length members = omega (arith, p.1, l.below, l.order) in
          let at = l.follow (first + p.0) (omega arith) (omega (arith, p.1, l.order)) in
          let again : first + p.0 - first ≡ p.0 = omega arith in
          has_at members (first + p.0) i below (at ∙ ap (λ (n : ℕ). get_or members first (pos 0) +ℤ pos n) again ∙ ap (λ (z : ℤ). z +ℤ pos p.0) (sym a) ∙ sym p.2);
      ends = rw b l.ends;
    }

pub returns-clause-run : goal.returns-clause-run
returns-clause-run c =
    let members = c.args.self.now in
    let h = subst AreMembers c.self.view_is c.self.invariant in
    let first = c.in_ok-first.first in
    let last = c.last_from-last.result in
    let start = c.in_ok-first.ensures in
    let l = c.last_from-last.ensures in
    let a : c.index.result.now ≡ get_or members first c.index.result.now = c.index.ensures ∙ ap (λ (xs : List ℤ). get_or xs first c.index.result.now) c.self.view_is in
    let b : c.index-2.result.now ≡ get_or members last c.index-2.result.now = c.index-2.ensures ∙ ap (λ (xs : List ℤ). get_or xs last c.index-2.result.now) c.self.view_is in
    is_run members c.args.k first last _ _ start l
    (to_z-of_z (small_at members first c.index.result.now h start.below a) ∙ a ∙ get_or_default members first c.index.result.now (pos 0) start.below)
    (to_z-of_z (small_at members last c.index-2.result.now h l.below b) ∙ b ∙ get_or_default members last c.index-2.result.now (pos 0) l.below)
