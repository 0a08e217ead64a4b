use Rattle.std.proofs.Common.{◌≡◌, ℕ, ◌*◌, ◌^◌, ◌<◌, ◌≤◌, true, false, cond, List, Some, None, length, get_or, slice_get, Contains, ℤ, pos, ◌+ℤ◌, unsigned_abs, neg_ℤ, ◌≤ℤ◌, to_z, of_z, to_z-of_z, w64, Fits, FitsSigned, refl, sym, ap, ◌∙◌, subst, arith, inl, inr}
use Rattle.std.proofs.lemmas.Bool.{false≢true, cases_Bool}
use Rattle.std.proofs.lemmas.Bool.Decides.{Decides-int_eq}
use Rattle.std.proofs.lemmas.Int.{ints}
use Rattle.std.proofs.lemmas.Option.{get_or_from_slice_get, slice_get_within}
use Rattle.std.specs.Ordering.{int_eq}
use Rattle.hpf_num.specs.Runs.{AreMembers, has}
use Rattle.hpf_sched.specs.declared.step.Move.{Move}
use Rattle.std.proofs.Math.Nat.{mul-le-mul_left}
use Rattle.hpf_sched.specs.Places.{place_by}
use Rattle.hpf_sched.specs.Lines.{side_move}
use Rattle.hpf_sched.proofs.Finding.{has_is, is_had, place_is, members_once, contains_from}
use Rattle.hpf_sched.proofs.lines.side_move.Goals as goal
use Rattle.hpf_own.specs.Limits.{element_limit}
use Rattle.hpf_num.specs.Limits.{integer_limit}

-- a member moved a little is an integer of a word
record IsMoved (i shift : ℤ) : Type 0 where
  member : FitsSigned w64 i
  shift_fits : FitsSigned w64 shift
  moved : FitsSigned w64 (i +ℤ shift)

small_moved : (i shift : ℤ) → neg_ℤ (pos integer_limit) ≤ℤ i → i ≤ℤ pos integer_limit → unsigned_abs shift ≤ 2 ^ 32 → IsMoved i shift
small_moved i shift low high small = record { member = omega (arith, ints); shift_fits = omega (arith, ints); moved = omega (arith, ints) }

member_moved : (xs : List ℤ) (k : ℕ) (i shift : ℤ) → AreMembers xs → slice_get xs k ≡ Some i → unsigned_abs shift ≤ 2 ^ 32 → IsMoved i shift
member_moved xs k i shift h at small =
    let e : get_or xs k i ≡ i = get_or_from_slice_get xs k i i at in
    let s = h.small k i (slice_get_within xs k i at) in
    let low : neg_ℤ (pos integer_limit) ≤ℤ i = rw e at s.least in
    let high : i ≤ℤ pos integer_limit = rw e at s.greatest in
    small_moved i shift low high small

-- as the code has it
moved_is : (i shift : ℤ) → IsMoved i shift → to_z w64 (of_z w64 (to_z w64 (of_z w64 i) +ℤ to_z w64 (of_z w64 shift))) ≡ i +ℤ shift
moved_is i shift h =
    let a = to_z-of_z h.member in
    let b = to_z-of_z h.shift_fits in
    ap (λ (x : ℤ). to_z w64 (of_z w64 (x +ℤ to_z w64 (of_z w64 shift)))) a
    ∙ ap (λ (x : ℤ). to_z w64 (of_z w64 (i +ℤ x))) b ∙ to_z-of_z h.moved

-- one that isn't a member of the other list
not_had : (owned held : List ℤ) (k : ℕ) (i shift y : ℤ) (m : Move) → slice_get held k ≡ Some i → y ≡ i +ℤ shift → (Contains owned y → ⊥) → None ≡ cond (has owned (get_or held k (pos 0) +ℤ shift)) (Some m) None
not_had owned held k i shift y m at is none =
    let here : get_or held k (pos 0) ≡ i = get_or_from_slice_get held k i (pos 0) at in
    let no : has owned (get_or held k (pos 0) +ℤ shift) ≡ false =
    elim (cases_Bool (has owned (i +ℤ shift))) [
      | inl there ↦ absurd (none (subst (Contains owned) (sym is) (is_had owned (i +ℤ shift) there)))
      | inr other ↦ ap (λ (x : ℤ). has owned (x +ℤ shift)) here ∙ other
    ] in
    rw no refl

-- one that is
had : (owned held : List ℤ) (j k : ℕ) (i shift y : ℤ) (from to : ℕ) → AreMembers owned → AreMembers held → slice_get held k ≡ Some i → y ≡ i +ℤ shift → slice_get owned j ≡ Some y
    → Some (record { from = j * from; to = k * to }) ≡ cond (has owned (get_or held k (pos 0) +ℤ shift)) (Some (side_move owned held shift from to (get_or held k (pos 0)))) None
had owned held j k i shift y from to mo mh at is there =
    let here : get_or held k (pos 0) ≡ i = get_or_from_slice_get held k i (pos 0) at in
    let moved : get_or held k (pos 0) +ℤ shift ≡ y = ap (λ (x : ℤ). x +ℤ shift) here ∙ sym is in
    let yes : has owned (get_or held k (pos 0) +ℤ shift) ≡ true = ap (λ (x : ℤ). has owned x) moved ∙ has_is owned y (contains_from owned j y there) in
    let place_from : place_by int_eq owned (get_or held k (pos 0) +ℤ shift) ≡ j = ap (λ (x : ℤ). place_by int_eq owned x) moved ∙ place_is int_eq Decides-int_eq owned j y (members_once owned mo) there in
    let place_to : place_by int_eq held (get_or held k (pos 0)) ≡ k = ap (λ (x : ℤ). place_by int_eq held x) here ∙ place_is int_eq Decides-int_eq held k i (members_once held mh) at in
    rw yes (let m : Move = record { from = j * from; to = k * to } in
    ap (λ (n : ℕ). let m : Move = record { from = n * from; to = k * to } in Some m) (sym place_from)
    ∙ ap (λ (n : ℕ). let m : Move = record { from = place_by int_eq owned (get_or held k (pos 0) +ℤ shift) * from; to = n * to } in Some m) (sym place_to))

pub returns-in_err-j : goal.returns-in_err-j
returns-in_err-j c =
    let owned = c.args.owned.now in
    let held = c.args.held.now in
    let shift = c.args.rise.shift in
    let at : slice_get held c.args.k ≡ Some c.in_ok-i.i = sym c.in_ok-i.ensures in
    let m = member_moved held c.args.k c.in_ok-i.i shift c.count.ensures.members at c.requires.shift in
    let none = c.in_err-j.ensures.member in
    c.from_residual-in_err-j.ensures
    ∙ not_had owned held c.args.k c.in_ok-i.i shift _ _ at (moved_is c.in_ok-i.i shift m) (λ there. false≢true (none.1 there))

within_word : (j from n : ℕ) → j < n → n ≤ element_limit → from ≤ element_limit → Fits w64 (j * from)
within_word j from n below few small =
    let a : j * from ≤ j * element_limit = mul-le-mul_left j small in
    omega arith

pub overflow_mul-result : goal.overflow_mul-result
overflow_mul-result c =
    within_word c.in_ok-j.j c.args.rise.from (length c.args.owned.now) (slice_get_within c.args.owned.now c.in_ok-j.j _ c.in_ok-j.ensures.place) c.requires.owned c.requires.from

pub returns : goal.returns
returns c =
    let owned = c.args.owned.now in
    let held = c.args.held.now in
    let shift = c.args.rise.shift in
    let at : slice_get held c.args.k ≡ Some c.in_ok-i.i = sym c.in_ok-i.ensures in
    let m = member_moved held c.args.k c.in_ok-i.i shift c.count.ensures.members at c.requires.shift in
    had owned held c.in_ok-j.j c.args.k c.in_ok-i.i shift _ c.args.rise.from c.args.rise.to c.count-2.ensures.members c.count.ensures.members at (moved_is c.in_ok-i.i shift m) c.in_ok-j.ensures.place
