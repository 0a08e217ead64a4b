use Rattle.std.proofs.Common.{◌≡◌, ℕ, ◌+◌, ◌%◌, ◌/◌, ◌<◌, ◌≤◌, ◌++◌, [], List, ℤ, length, take, drop, get_or, set, slice_get, Some, w64, to_z-of_z, SFits, arith, ap, sym, ◌∙◌, subst, refl}
use Rattle.std.proofs.lemmas.List.{get_or_default, take_more_set, drop_all, take_all, append-nil, length-set}
use Rattle.std.proofs.lemmas.Option.{slice_get-get_or, get_or_from_slice_get}
use Rattle.std.proofs.lemmas.Nat.{mod_below}
use Rattle.hpf_own.specs.Space.{choices}
use Rattle.hpf_own.specs.Held.{Part}
use Rattle.hpf_own.proofs.Sides.{IsWritten, written_some, written_more}
use Rattle.hpf_own.proofs.held.Held.nth.Goals as goal

-- the list of a dimension, as the loop has it
side_is : (sides : List (List ℤ)) (d : ℕ) (side : List ℤ) → d < length sides → side ≡ get_or sides d side → get_or sides d [] ≡ side
side_is sides d side within is = get_or_default sides d [] side within ∙ sym is

some_side : (sides : List (List ℤ)) (k d rest n : ℕ) (into side : List ℤ) → d < length sides → side ≡ get_or sides d side → n ≡ length side → IsWritten sides k d rest into → 1 ≤ n
some_side sides k d rest n into side within is size h =
    let s = written_some sides k d rest into within h in
    subst (λ (m : ℕ). 1 ≤ m) (ap (λ (xs : List ℤ). length xs) (side_is sides d side within is) ∙ sym size) s

pub nonzero_rem-rest : goal.nonzero_rem-rest
nonzero_rem-rest c =
    let sides = c.as_slice-side-items.result.now in
    let h = c.loop-d.invariant.written in
    some_side sides c.args.k c.loop-d.d c.loop-d.rest c.count-count.result c.loop-d.into c.side-item.result c.loop-d-test.true c.side-item.is c.count-count.ensures.count h

pub nth_of-requires : goal.nth_of-requires
nth_of-requires c =
    let sides = c.as_slice-side-items.result.now in
    let h = c.loop-d.invariant.written in
    let some = some_side sides c.args.k c.loop-d.d c.loop-d.rest c.count-count.result c.loop-d.into c.side-item.result c.loop-d-test.true c.side-item.is c.count-count.ensures.count h in
    let m = mod_below c.loop-d.rest c.count-count.result some in
    omega (arith, c.count-count.ensures.count)

step : (sides : List (List ℤ)) (k d rest n : ℕ) (into side : List ℤ) (x : ℤ) → d < length sides → length into ≡ length sides → side ≡ get_or sides d side → n ≡ length side → slice_get side (rest % n) ≡ Some x → IsWritten sides k d rest into → IsWritten sides k (d + 1) (rest / n) (set into d x)
step sides k d rest n into side x within long is size at h =
    let here = side_is sides d side within is in
    let same : length (get_or sides d []) ≡ n = ap (λ (xs : List ℤ). length xs) here ∙ sym size in
    let there : get_or (get_or sides d []) (rest % length (get_or sides d [])) x ≡ x =
    rw (same, here) (get_or_from_slice_get side (rest % n) x x at) in
    let w = written_more sides k d rest into (set into d x) x within h there (take_more_set into d x (omega arith)) in
    subst (λ (m : ℕ). IsWritten sides k (d + 1) (rest / m) (set into d x)) same w

pub loop-d-preserved : goal.loop-d-preserved
loop-d-preserved c =
    let sides = c.as_slice-side-items.result.now in
    let h = c.loop-d.invariant.written in
    let fits : SFits w64 c.nth_of.result = record { sfits = c.nth_of.type_inv } in
    let w = step sides c.args.k c.loop-d.d c.loop-d.rest c.count-count.result c.loop-d.into c.side-item.result c.nth_of.result c.loop-d-test.true c.loop-d.invariant.rank c.side-item.is c.count-count.ensures.count c.nth_of.ensures h in
    rw (to_z-of_z fits) (record { written = w; rank = length-set c.loop-d.into c.loop-d.d c.nth_of.result ∙ c.loop-d.invariant.rank })

written_whole : (sides : List (List ℤ)) (k d rest : ℕ) (into : List ℤ) → length sides ≤ d → length into ≡ length sides → k < length (choices sides) → IsWritten sides k d rest into → slice_get (choices sides) k ≡ Some into
written_whole sides k d rest into end long below h =
    let last : drop d sides ≡ [] = drop_all d sides end in
    let only : rest < 1 = subst (λ (xs : List (List ℤ)). rest < length (choices xs)) last h.below in
    let zero : rest ≡ 0 = omega arith in
    let there : get_or (choices (drop d sides)) rest [] ≡ [] = rw (last, zero) refl in
    slice_get-get_or (choices sides) k [] below
    ∙ ap (λ (xs : List ℤ). Some xs) (h.there ∙ ap (λ (xs : List ℤ). take d into ++ xs) there ∙ append-nil (take d into) ∙ take_all d into (omega arith))

pub returns : goal.returns
returns c =
    let sides = c.as_slice-side-items.result.now in
    let h = c.loop-d.invariant.written in
    let value = c.as_slice-side-items.ensures.value in
    let same : choices sides ≡ c.args.self.now.indices = ap (λ (xs : List (List ℤ)). choices xs) value ∙ ap (λ (p : Part). p.indices) c.self.view_is in
    let below : c.args.k < length (choices sides) = rw same c.requires.place in
    rw (← same) (written_whole sides c.args.k c.loop-d.d c.loop-d.rest c.loop-d.into c.loop-d-test.false c.loop-d.invariant.rank below h)

pub loop-d-init : goal.loop-d-init
loop-d-init c =
    let sides = c.as_slice-side-items.result.now in
    let value = c.as_slice-side-items.ensures.value in
    let same : choices sides ≡ c.args.self.now.indices = ap (λ (xs : List (List ℤ)). choices xs) value ∙ ap (λ (p : Part). p.indices) c.self.view_is in
    let rank = ap (λ (xs : List (List ℤ)). length xs) value ∙ ap (λ (p : Part). p.rank) c.self.view_is in
    record { written = record { below = rw same c.requires.place; there = refl }; rank = c.requires.rank ∙ sym rank }
