use Rattle.std.proofs.Common.{◌≡◌, ℕ, ◌+◌, ◌<◌, true, false, List, length, get_or, set, ℤ, pos, ◌+ℤ◌, ◌<ℤ◌, ◌≤ℤ◌, w64, of_z, to_z, to_z-of_z, SFits, zero, suc, negsuc, rules, arith, sym, ap, ◌∙◌, subst, refl}
use Rattle.std.specs.Int.RustNames.{int_lt}
use Rattle.std.proofs.lemmas.Int.{ints}
use Rattle.std.proofs.lemmas.List.{get_or_default}
use Rattle.hpf_num.specs.declared.run.Run.{Run}
use Rattle.hpf_own.specs.KeptLists.{no_run}
use Rattle.hpf_own.proofs.Indices.{LiesIn-length}
use Rattle.hpf_own.proofs.Walking.{IsNext, IsWrapped, wrapped_none, wrapped_more, wrapped_up, wrapped_all, next_index_at, next_lies}
use Rattle.hpf_own.proofs.bounds.Bounds.next_index.Goals as goal

pub loop-d-init : goal.loop-d-init
loop-d-init c =
    wrapped_none c.as_slice-run-items.result.now c.args.index.now (LiesIn-length c.args.self.now c.args.index.now c.requires ∙ ap (λ (bounds : List Run). length bounds) (sym c.as_slice-run-items.ensures.same))

below : (x high : ℤ) → int_lt x high ≡ true → x <ℤ high
below x high h = grind (arith, ints)

not_below : (x high : ℤ) → int_lt x high ≡ false → high ≤ℤ x
not_below x high h = grind (arith, ints)

one_more : (x high : ℤ) → SFits w64 x → SFits w64 high → x <ℤ high → SFits w64 (x +ℤ pos 1)
one_more (pos n) high f g h =
    let b = g.sfits in
    record { sfits = omega (arith, ints) }
one_more (negsuc zero) high f g h = record { sfits = omega (arith, ints) }
one_more (negsuc (suc n)) high f g h =
    let a = f.sfits in
    let is : negsuc (suc n) +ℤ pos 1 ≡ negsuc n = omega (arith, ints) in
    rw is (record { sfits = omega (arith, ints) })

-- the index with the subscript in a dimension one greater
abbrev raised : List ℤ → ℕ → List ℤ
raised now d = set now d (to_z w64 (of_z w64 (to_z w64 (of_z w64 (get_or now d (pos 0))) +ℤ pos 1)))

-- a subscript that isn't its upper bound
up : (bounds : List Run) (index now : List ℤ) (d : ℕ) → d < length bounds → IsWrapped bounds index d now → SFits w64 (get_or now d (pos 0)) → SFits w64 (get_or bounds d no_run).high → int_lt (to_z w64 (of_z w64 (get_or now d (pos 0)))) (to_z w64 (of_z w64 (get_or bounds d no_run).high)) ≡ true → IsNext bounds index (raised now d) true
up bounds index now d within h f g test =
    let x = get_or now d (pos 0) in
    let run = get_or bounds d no_run in
    let less = below x run.high (rw (to_z-of_z f, to_z-of_z g) at test) in
    rw (to_z-of_z f, to_z-of_z (one_more x run.high f g less))
    (wrapped_up bounds index now d run x (x +ℤ pos 1) within (get_or_default bounds d no_run run within) (get_or_default now d (pos 0) x (omega (arith, h.rank))) less refl h)

-- one that is, and begins again
again : (bounds : List Run) (index now : List ℤ) (d : ℕ) → d < length bounds → IsWrapped bounds index d now → SFits w64 (get_or now d (pos 0)) → SFits w64 (get_or bounds d no_run).high → SFits w64 (get_or bounds d no_run).low → int_lt (to_z w64 (of_z w64 (get_or now d (pos 0)))) (to_z w64 (of_z w64 (get_or bounds d no_run).high)) ≡ false → IsWrapped bounds index (d + 1) (set now d (to_z w64 (of_z w64 (get_or bounds d no_run).low)))
again bounds index now d within h f g l test =
    let x = get_or now d (pos 0) in
    let run = get_or bounds d no_run in
    let high = not_below x run.high (rw (to_z-of_z f, to_z-of_z g) at test) in
    rw (to_z-of_z l)
    (wrapped_more bounds index now d run x within (get_or_default bounds d no_run run within) (get_or_default now d (pos 0) x (omega (arith, h.rank))) high h)

pub returns-then-index-d-clause-next : goal.returns-then-index-d-clause-next
returns-then-index-d-clause-next c = λ k at.
    let bounds = c.as_slice-run-items.result.now in
    let now = c.loop-d.index in
    let d = c.loop-d.d in
    let f : SFits w64 (get_or now d (pos 0)) = search rules in
    let g : SFits w64 (get_or bounds d no_run).high = search rules in
    let next = up bounds c.args.index.now now d c.loop-d-test.true c.loop-d.invariant f g c.if-index-d.true in
    next_index_at c.args.self.now c.args.index.now (raised now d) true k (subst (λ (runs : List Run). IsNext runs c.args.index.now (raised now d) true) c.as_slice-run-items.ensures.same next) at

pub returns-then-index-d-clause-lies : goal.returns-then-index-d-clause-lies
returns-then-index-d-clause-lies c =
    let bounds = c.as_slice-run-items.result.now in
    let now = c.loop-d.index in
    let d = c.loop-d.d in
    let f : SFits w64 (get_or now d (pos 0)) = search rules in
    let g : SFits w64 (get_or bounds d no_run).high = search rules in
    let next = up bounds c.args.index.now now d c.loop-d-test.true c.loop-d.invariant f g c.if-index-d.true in
    next_lies c.args.self.now c.args.index.now (raised now d) true (subst (λ (runs : List Run). IsNext runs c.args.index.now (raised now d) true) c.as_slice-run-items.ensures.same next) c.requires

pub loop-d-preserved : goal.loop-d-preserved
loop-d-preserved c =
    let bounds = c.as_slice-run-items.result.now in
    let now = c.loop-d.index in
    let d = c.loop-d.d in
    let f : SFits w64 (get_or now d (pos 0)) = search rules in
    let g : SFits w64 (get_or bounds d no_run).high = search rules in
    let l : SFits w64 (get_or bounds d no_run).low = search rules in
    again bounds c.args.index.now now d c.loop-d-test.true c.loop-d.invariant f g l c.if-index-d.false

pub returns-clause-next : goal.returns-clause-next
returns-clause-next c = λ k at.
    let next = wrapped_all c.as_slice-run-items.result.now c.args.index.now c.loop-d.index c.loop-d.d c.loop-d-test.false c.loop-d.invariant in
    next_index_at c.args.self.now c.args.index.now c.loop-d.index false k (subst (λ (bounds : List Run). IsNext bounds c.args.index.now c.loop-d.index false) c.as_slice-run-items.ensures.same next) at

pub returns-clause-lies : goal.returns-clause-lies
returns-clause-lies c =
    let next = wrapped_all c.as_slice-run-items.result.now c.args.index.now c.loop-d.index c.loop-d.d c.loop-d-test.false c.loop-d.invariant in
    next_lies c.args.self.now c.args.index.now c.loop-d.index false (subst (λ (bounds : List Run). IsNext bounds c.args.index.now c.loop-d.index false) c.as_slice-run-items.ensures.same next) c.requires
