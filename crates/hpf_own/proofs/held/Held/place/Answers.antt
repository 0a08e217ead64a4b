use Rattle.std.proofs.Common.{◌≡◌, ℕ, ◌+◌, ◌-◌, ◌*◌, ◌<◌, ◌∷◌, [], List, ℤ, length, drop, get_or, slice_get, Some, Contains, pos, to_z, of_z, w64, to_z-of_z, SFits, FitsSigned, arith, ap, sym, ◌∙◌, subst, rules}
use Rattle.std.proofs.lemmas.List.{get_or_default, drop_more, drop_all}
use Rattle.std.proofs.lemmas.Bool.{false≢true}
use Rattle.hpf_own.specs.Space.{choices}
use Rattle.hpf_own.specs.Held.{Part}
use Rattle.hpf_own.proofs.Sides.{before, IsPlaced, placed_before, placed_fits, placed_whole, placed_none, product_fits, IsBefore, not_chosen}
use Rattle.hpf_own.proofs.held.Held.place.Goals as goal

pub overflow_mul-place : goal.overflow_mul-place
overflow_mul-place c =
    let sides = c.self.inside.sides.items in
    let b = before sides c.loop-d.d c.index-side.result.now (omega arith) (omega arith) c.index-side.ensures in
    let f = product_fits sides c.loop-d.d c.loop-d.place c.count.result c.index-side.result.now _ c.self.invariant.all_or_none c.self.invariant.few b c.loop-d.invariant.placed c.count.ensures.count in
    omega arith

pub returns-in_err-place-clause-one : goal.returns-in_err-place-clause-one
returns-in_err-place-clause-one c =
    let fits : SFits w64 (get_or c.args.index.now (c.loop-d.d - 1) (pos 0)) = search rules in
    let sides = c.self.inside.sides.items in
    let index = c.args.index.now in
    let d = c.loop-d.d in
    let b = before sides d c.index-side.result.now (omega arith) (omega arith) c.index-side.ensures in
    let x = get_or index (d - 1) (pos 0) in
    let long : length index ≡ length sides = c.requires ∙ sym (ap (λ (p : Part). p.rank) c.self.view_is) in
    let is : x ≡ get_or index (d - 1) x = get_or_default index (d - 1) (pos 0) x (omega (arith, b.within)) in
    let member = rw (to_z-of_z fits) at c.in_err-place.ensures.member in
    let inside : Contains c.args.self.now.indices index → Contains (choices sides) index = subst (λ (xs : List (List ℤ)). Contains xs index) (sym (ap (λ (p : Part). p.indices) c.self.view_is)) in (
      λ some. absurd (let e = rw c.from_residual.ensures at some in false≢true e),
      λ h. absurd (not_chosen sides d c.index-side.result.now index x b is (λ k. false≢true (member.1 k)) (inside h)),
    )

-- one dimension more
placed : (sides : List (List ℤ)) (d place n j : ℕ) (side index : List ℤ) → IsBefore sides d side → 0 < d → length index ≡ length sides → FitsSigned w64 (get_or index (d - 1) (pos 0)) → IsPlaced sides d place (drop d index) → n ≡ length side → slice_get side j ≡ Some (to_z w64 (of_z w64 (get_or index (d - 1) (pos 0)))) → IsPlaced sides (d - 1) (place * n + j) (drop (d - 1) index)
placed sides d place n j side index b some long f h size at =
    let x = get_or index (d - 1) (pos 0) in
    let there : slice_get side j ≡ Some x = at ∙ ap (λ (z : ℤ). Some z) (to_z-of_z f) in
    let more : drop (d - 1) index ≡ x ∷ drop d index = drop_more index (d - 1) (pos 0) (omega (arith, b.within)) ∙ ap (λ (k : ℕ). x ∷ drop k index) b.next in
    rw more (placed_before sides d place n j side x (drop d index) b h size there)

pub overflow_add-place : goal.overflow_add-place
overflow_add-place c =
    let sides = c.self.inside.sides.items in
    let fits : FitsSigned w64 (get_or c.args.index.now (c.loop-d.d - 1) (pos 0)) = search rules in
    let b = before sides c.loop-d.d c.index-side.result.now (omega arith) (omega arith) c.index-side.ensures in
    let long : length c.args.index.now ≡ length sides = c.requires ∙ sym (ap (λ (p : Part). p.rank) c.self.view_is) in
    let p = placed sides c.loop-d.d c.loop-d.place c.count.result c.in_ok-place.field-0 c.index-side.result.now c.args.index.now b c.loop-d-test.true long fits c.loop-d.invariant.placed c.count.ensures.count c.in_ok-place.ensures.place in
    let f = placed_fits sides (c.loop-d.d - 1) _ _ c.self.invariant.all_or_none c.self.invariant.few p in
    omega arith

pub loop-d-preserved : goal.loop-d-preserved
loop-d-preserved c =
    let sides = c.self.inside.sides.items in
    let fits : FitsSigned w64 (get_or c.args.index.now (c.loop-d.d - 1) (pos 0)) = search rules in
    let b = before sides c.loop-d.d c.index-side.result.now (omega arith) (omega arith) c.index-side.ensures in
    let long : length c.args.index.now ≡ length sides = c.requires ∙ sym (ap (λ (p : Part). p.rank) c.self.view_is) in
    record {
      within = omega arith;
      placed = placed sides c.loop-d.d c.loop-d.place c.count.result c.in_ok-place.field-0 c.index-side.result.now c.args.index.now b c.loop-d-test.true long fits c.loop-d.invariant.placed c.count.ensures.count c.in_ok-place.ensures.place;
    }

pub returns-clause-place : goal.returns-clause-place
returns-clause-place c =
    let sides = c.self.inside.sides.items in
    let none : c.loop-d.d ≡ 0 = omega arith in
    let at : IsPlaced sides 0 c.loop-d.place c.args.index.now = subst (λ (k : ℕ). IsPlaced sides k c.loop-d.place (drop k c.args.index.now)) none c.loop-d.invariant.placed in
    rw (← ap (λ (p : Part). p.indices) c.self.view_is) (placed_whole sides c.loop-d.place c.args.index.now at)

pub loop-d-init : goal.loop-d-init
loop-d-init c =
    let sides = c.self.inside.sides.items in
    let all : c.len-d.result ≡ length sides = omega (arith, c.self.inside.sides.ok.0) in
    let long : length c.args.index.now ≡ length sides = c.requires ∙ sym (ap (λ (p : Part). p.rank) c.self.view_is) in
    let end : drop (length sides) c.args.index.now ≡ [] = drop_all (length sides) c.args.index.now (omega arith) in
    rw all (record { within = omega arith; placed = rw end (placed_none sides) })
