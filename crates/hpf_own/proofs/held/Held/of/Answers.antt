use Rattle.std.proofs.Common.{◌≡◌, ℕ, ◌≤◌, List, ℤ, [], length, replicate, All, ap, sym, ◌∙◌, inl, inr, arith, subst, refl}
use Rattle.std.proofs.lemmas.List.{length-replicate}
use Rattle.std.proofs.lemmas.List.Elements.{All-replicate, All-nil}
use Rattle.std.proofs.lemmas.Bool.{false≢true}
use Rattle.hpf_num.specs.Runs.{AreMembers, IsSmall}
use Rattle.hpf_own.specs.Space.{choices}
use Rattle.hpf_own.specs.Held.{AreSides, Part}
use Rattle.hpf_own.proofs.Sides.{no_choice, empty_choice}
use Rattle.hpf_own.proofs.held.Held.of.Goals as goal
use Rattle.hpf_own.specs.Limits.{dimension_limit}

pub invariant_of-result : goal.invariant_of-result
invariant_of-result c =
    let value : c.as_slice.result.now ≡ c.args.sides.items = c.as_slice.ensures.value in
    let some = subst (All (λ xs. 1 ≤ length xs)) value (c.have_members.ensures.some.0 c.if-have_members.true) in
    let members = rw c.if-have_members.true at c.have_members.ensures.members in
    record { some = c.requires.some; short = c.requires.short; members = subst (All AreMembers) value members; all_or_none = inl some; few = c.requires.few }

-- what no member is in
none_sides : (n : ℕ) → 1 ≤ n → n ≤ dimension_limit → (let none : List ℤ = [] in AreSides (replicate n none))
none_sides n some short =
    let none : List ℤ = [] in
    let long = length-replicate n none in
    record {
      some = omega arith;
      short = omega arith;
      members = All-replicate AreMembers n none (record { ascending = λ i j d less below. absurd (omega arith); small = All-nil IsSmall });
      all_or_none = inr (All-replicate (λ (xs : List ℤ). length xs ≡ 0) n none refl);
      few = rw (empty_choice {A = ℤ} n some) (omega arith);
    }

pub invariant_of-result-2 : goal.invariant_of-result-2
invariant_of-result-2 c =
    let items = c.args.sides.items in
    let rank : c.len.result ≡ length items = omega (arith, c.args.sides.ok.0) in
    rw c.in_ok-sides.ensures (none_sides c.len.result (omega (arith, c.requires.some)) (omega (arith, c.requires.short)))

made : (items sides : List (List ℤ)) (n : ℕ) → n ≡ length items → 1 ≤ length items → (All (λ xs. 1 ≤ length xs) items → ⊥) → (let none : List ℤ = [] in sides ≡ replicate n none) → (let p : Part = record { rank = length sides; indices = choices sides } in p ≡ record { rank = length items; indices = choices items })
made items sides n rank some out is =
    let none : List ℤ = [] in
    let make : ℕ → List (List ℤ) → Part = λ r xs. record { rank = r; indices = xs } in
    let a : length sides ≡ length items = ap (λ (xs : List (List ℤ)). length xs) is ∙ length-replicate n none ∙ rank in
    let e : choices sides ≡ choices items = ap (λ (xs : List (List ℤ)). choices xs) is ∙ empty_choice {A = ℤ} n (omega arith) ∙ sym (no_choice items out) in
    ap (λ (r : ℕ). make r (choices sides)) a ∙ ap (make (length items)) e

pub returns : goal.returns
returns c =
    let items = c.args.sides.items in
    let value : c.as_slice.result.now ≡ items = c.as_slice.ensures.value in
    let rank : c.len.result ≡ length items = omega (arith, c.args.sides.ok.0) in
    made items c.in_ok-sides.sides.items c.len.result rank c.requires.some
    (λ all. false≢true (sym c.if-have_members.false ∙ c.have_members.ensures.some.1 (subst (All (λ xs. 1 ≤ length xs)) (sym value) all)))
    c.in_ok-sides.ensures
