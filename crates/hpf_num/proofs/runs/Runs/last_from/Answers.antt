use Rattle.std.proofs.Common.{◌≡◌, ℕ, ◌+◌, ◌-◌, ◌<◌, ◌≤◌, List, length, ℤ, true, false, get_or, pos, ◌+ℤ◌, ◌-ℤ◌, ap, sym, ◌∙◌, arith, subst, inl, inr}
use Rattle.std.proofs.lemmas.Int.{ints}
use Rattle.std.proofs.lemmas.Bool.{not-true, not-false, cases_lt}
use Rattle.hpf_num.specs.Runs.{AreMembers, has}
use Rattle.hpf_num.proofs.Ends.{before_it, ends_last}
use Rattle.hpf_num.proofs.runs.Runs.last_from.Goals as goal

pub returns-then-starts_at : goal.returns-then-starts_at
returns-then-starts_at c =
    let members = c.args.self.now in
    let h = subst AreMembers c.self.view_is c.self.invariant in
    let same = ap (λ (xs : List ℤ). length xs) c.self.view_is in
    let place = c.loop-place.place in
    let a = c.loop-place.auto.place in
    let within : place < length members = omega (arith, c.self.inside.members.ok.0) in
    let start : has members (get_or members place (pos 0) -ℤ pos 1) ≡ false = not-true _ (sym c.starts_at.ensures ∙ c.if-starts_at.true) in
    let again : place - 1 + 1 ≡ place = omega arith in
    record {
      order = omega arith;
      below = omega arith;
      follow = λ k low high. c.loop-place.invariant k low (omega arith);
      ends = ends_last members (place - 1) h (omega arith) (λ _. rw again start);
    }

-- one member more follows
one_more : (members : List ℤ) (first place : ℕ) → AreMembers members → place < length members → first < place → ((k : ℕ) → first ≤ k → k < place → get_or members k (pos 0) ≡ (get_or members first (pos 0) +ℤ pos (k - first))) → has members (get_or members place (pos 0) -ℤ pos 1) ≡ true → (k : ℕ) → first ≤ k → k < place + 1 → get_or members k (pos 0) ≡ (get_or members first (pos 0) +ℤ pos (k - first))
one_more members first place h below some before is k low high =
    elim (cases_lt k place) [
      | inl less ↦ before k low less
      | inr most ↦
          let here : k ≡ place = omega arith in
          let b = (before_it members place h below is).1 in
          let l = before (place - 1) (omega arith) (omega arith) in
          let n : pos (place - 1 - first) +ℤ pos 1 ≡ pos (place - first) = omega (arith, ints) in
          rw here (omega (arith, ints))
    ]

pub loop-place-preserved : goal.loop-place-preserved
loop-place-preserved c =
    let members = c.args.self.now in
    let h = subst AreMembers c.self.view_is c.self.invariant in
    let same = ap (λ (xs : List ℤ). length xs) c.self.view_is in
    let place = c.loop-place.place in
    let a = c.loop-place.auto.place in
    let within : place < length members = omega (arith, c.self.inside.members.ok.0) in
    one_more members c.args.first place h within (omega arith) c.loop-place.invariant (not-false _ (sym c.starts_at.ensures ∙ c.if-starts_at.false))

pub returns : goal.returns
returns c =
    let members = c.args.self.now in
    let h = subst AreMembers c.self.view_is c.self.invariant in
    let same = ap (λ (xs : List ℤ). length xs) c.self.view_is in
    let count = c.len-count.result in
    let all : count ≡ length members = omega (arith, c.self.inside.members.ok.0) in
    let past = c.loop-place-test.false in
    record {
      order = omega arith;
      below = omega arith;
      follow = λ k low high. c.loop-place.invariant k low (omega arith);
      ends = ends_last members (count - 1) h (omega arith) (λ more. absurd (omega arith));
    }
