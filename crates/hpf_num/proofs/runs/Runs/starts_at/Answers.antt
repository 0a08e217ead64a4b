use Rattle.std.proofs.Common.{◌≡◌, ℕ, ◌-◌, ◌<◌, ◌≤◌, List, length, ℤ, not, eqb, get_or, pos, ◌-ℤ◌, FitsSigned, to_z, of_z, w64, to_z-of_z, ap, sym, ◌∙◌, arith, subst}
use Rattle.std.proofs.lemmas.Int.{ints}
use Rattle.std.proofs.lemmas.Bool.{eqb-true, eq-eqb}
use Rattle.std.proofs.lemmas.List.{get_or_default}
use Rattle.hpf_num.specs.Runs.{AreMembers, IsSmall, has}
use Rattle.hpf_num.proofs.Members.{small_at, same_bits, same_test}
use Rattle.hpf_num.proofs.Ends.{before_it, starts_first, starts_behind}
use Rattle.hpf_num.proofs.runs.Runs.starts_at.Goals as goal

pub returns-then-place-eq0 : goal.returns-then-place-eq0
returns-then-place-eq0 c =
    eq-eqb c.args.place 0 c.if-place-eq0.true
    ∙ sym (ap not (starts_first c.args.self.now c.args.place (subst AreMembers c.self.view_is c.self.invariant) c.requires c.if-place-eq0.true))

one_less : (x : ℤ) → IsSmall x → FitsSigned w64 (x -ℤ pos 1)
one_less x h = omega (arith, ints)

-- the test that the code makes
tested : (members : List ℤ) (p : ℕ) (x y : ℤ) → AreMembers members → 1 ≤ p → p < length members → x ≡ get_or members (p - 1) x → y ≡ get_or members p y → eqb (of_z w64 x) (of_z w64 (to_z w64 (of_z w64 y) -ℤ pos 1)) ≡ has members (get_or members p (pos 0) -ℤ pos 1)
tested members p x y h some below is at =
    let fx = small_at members (p - 1) x h (omega arith) is in
    let fy = small_at members p y h below at in
    let before : x ≡ get_or members (p - 1) (pos 0) = is ∙ get_or_default members (p - 1) x (pos 0) (omega arith) in
    let here : y ≡ get_or members p (pos 0) = at ∙ get_or_default members p y (pos 0) below in
    let less : FitsSigned w64 (y -ℤ pos 1) = one_less y (subst IsSmall (sym at) (h.small p y below)) in
    rw (to_z-of_z fy)
    (same_test _ _
    (λ t. starts_behind members p some below (sym before ∙ same_bits x (y -ℤ pos 1) fx less (eqb-true _ _ t) ∙ ap (λ (z : ℤ). z -ℤ pos 1) here))
    (λ t. eq-eqb _ _ (ap (of_z w64) (before ∙ (before_it members p h below t).1 ∙ ap (λ (z : ℤ). z -ℤ pos 1) (sym here)))))

pub returns-else-place-eq0 : goal.returns-else-place-eq0
returns-else-place-eq0 c =
    let h = subst AreMembers c.self.view_is c.self.invariant in
    let read = λ (k : ℕ) (x : ℤ). ap (λ (xs : List ℤ). get_or xs k x) c.self.view_is in
    let out = c.if-place-eq0.false in
    ap not (tested c.args.self.now c.args.place c.index.result.now c.index-else-place-eq0.result.now h (omega arith) c.requires (c.index.ensures ∙ read (c.args.place - 1) c.index.result.now) (c.index-else-place-eq0.ensures ∙ read c.args.place c.index-else-place-eq0.result.now))
