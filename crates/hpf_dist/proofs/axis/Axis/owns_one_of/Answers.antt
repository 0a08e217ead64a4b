use Rattle.std.proofs.Common.{◌≡◌, ◌==◌, ℕ, ◌+◌, ◌-◌, ◌<◌, ◌≤◌, ◌^◌, All, ℤ, pos, ◌+ℤ◌, ◌*ℤ◌, FitsSigned, w64, to_z, of_z, to_z-of_z, sym, ◌∙◌, rules, arith, eq-eqb, subst}
use Rattle.std.proofs.lemmas.Bool.{ne_eqb}
use Rattle.std.proofs.lemmas.Int.{to_z_pos}
use Rattle.hpf_dist.specs.Axis.{Divided, AreBounds}
use Rattle.hpf_dist.specs.Spread.{IsPosition, owner_at, spread}
use Rattle.hpf_dist.proofs.Alike.{goes_on, none_alike}
use Rattle.hpf_dist.proofs.Spreads.{position_in, any_at, any_none}
use Rattle.hpf_dist.proofs.axis.Axis.owns_one_of.Goals as goal

-- where the loop stands is a position
stands : (axis : Divided) (first step t : ℤ) (count k : ℕ) → FitsSigned w64 first → FitsSigned w64 step → All (IsPosition axis) (spread first step count) → k < count → t ≡ to_z w64 (of_z w64 first) +ℤ (pos k *ℤ to_z w64 (of_z w64 step)) → IsPosition axis t
stands axis first step t count k f s all within e =
    rw (e, to_z-of_z f, to_z-of_z s) (position_in axis first step count k all within)

pub owner-requires-clause-low : goal.owner-requires-clause-low
owner-requires-clause-low c =
    (stands c.args.self.now c.args.first c.args.step _ c.args.count c.loop-k.k c.ranges.first c.ranges.step c.requires.positions c.loop-k-test.true (c.loop-k.invariant.0 c.loop-k-test.true)).low

pub owner-requires-clause-high : goal.owner-requires-clause-high
owner-requires-clause-high c =
    (stands c.args.self.now c.args.first c.args.step _ c.args.count c.loop-k.k c.ranges.first c.ranges.step c.requires.positions c.loop-k-test.true (c.loop-k.invariant.0 c.loop-k-test.true)).high

pub alike-alike-requires-clause-low : goal.alike-alike-requires-clause-low
alike-alike-requires-clause-low c =
    (stands c.args.self.now c.args.first c.args.step _ c.args.count c.loop-k.k c.ranges.first c.ranges.step c.requires.positions c.loop-k-test.true (c.loop-k.invariant.0 c.loop-k-test.true)).low

pub alike-alike-requires-clause-high : goal.alike-alike-requires-clause-high
alike-alike-requires-clause-high c =
    (stands c.args.self.now c.args.first c.args.step _ c.args.count c.loop-k.k c.ranges.first c.ranges.step c.requires.positions c.loop-k-test.true (c.loop-k.invariant.0 c.loop-k-test.true)).high

cast_is : (a : ℕ) → a ≤ 2 ^ 32 → to_z w64 a ≡ pos a
cast_is a h = to_z_pos w64 a (omega arith)

-- so many steps on, as the code computes them
record IsStepped (axis : Divided) (first step t : ℤ) (k a : ℕ) : Type 0 where
  product : FitsSigned w64 (to_z w64 a *ℤ step)
  fits : FitsSigned w64 (t +ℤ to_z w64 (of_z w64 (to_z w64 a *ℤ step)))
  is : to_z w64 (of_z w64 (t +ℤ to_z w64 (of_z w64 (to_z w64 a *ℤ step)))) ≡ first +ℤ (pos (k + a) *ℤ step)

stepped : (axis : Divided) (first step t : ℤ) (count k a : ℕ) → AreBounds axis.low axis.high → All (IsPosition axis) (spread first step count) → k < count → a < count - k → a ≤ 2 ^ 32 → t ≡ first +ℤ (pos k *ℤ step) → IsStepped axis first step t k a
stepped axis first step t count k a bounds all within more small e =
    let o = goes_on axis first step t count k a bounds all (omega arith) e in
    record {
      product = rw (cast_is a small) o.product;
      fits = rw (cast_is a small, to_z-of_z o.product) o.fits;
      is = rw (cast_is a small, to_z-of_z o.product, to_z-of_z o.fits) o.is;
    }

pub overflow_mul-t : goal.overflow_mul-t
overflow_mul-t c =
    let bounds : AreBounds c.args.self.now.low c.args.self.now.high = search rules in
    let all : All (IsPosition c.args.self.now) (spread (to_z w64 (of_z w64 c.args.first)) (to_z w64 (of_z w64 c.args.step)) c.args.count) = rw (to_z-of_z c.ranges.first, to_z-of_z c.ranges.step) c.requires.positions in
    (stepped c.args.self.now _ _ _ c.args.count c.loop-k.k c.alike-alike.result bounds all c.loop-k-test.true c.if-count-k.false c.alike-alike.ensures.small (c.loop-k.invariant.0 c.loop-k-test.true)).product

pub overflow_add-t : goal.overflow_add-t
overflow_add-t c =
    let bounds : AreBounds c.args.self.now.low c.args.self.now.high = search rules in
    let all : All (IsPosition c.args.self.now) (spread (to_z w64 (of_z w64 c.args.first)) (to_z w64 (of_z w64 c.args.step)) c.args.count) = rw (to_z-of_z c.ranges.first, to_z-of_z c.ranges.step) c.requires.positions in
    (stepped c.args.self.now _ _ _ c.args.count c.loop-k.k c.alike-alike.result bounds all c.loop-k-test.true c.if-count-k.false c.alike-alike.ensures.small (c.loop-k.invariant.0 c.loop-k-test.true)).fits

pub loop-k-preserved : goal.loop-k-preserved
loop-k-preserved c =
    let axis = c.args.self.now in
    let here = c.loop-k.invariant.0 c.loop-k-test.true in
    let bounds : AreBounds axis.low axis.high = search rules in
    let all : All (IsPosition axis) (spread (to_z w64 (of_z w64 c.args.first)) (to_z w64 (of_z w64 c.args.step)) c.args.count) = rw (to_z-of_z c.ranges.first, to_z-of_z c.ranges.step) c.requires.positions in
    let next = stepped axis _ _ _ c.args.count c.loop-k.k c.alike-alike.result bounds all c.loop-k-test.true c.if-count-k.false c.alike-alike.ensures.small here in
    let other = ne_eqb _ _ (λ e. c.if-owner-c.false (c.owner.ensures.owner ∙ e)) in (
      λ more. next.is,
      λ j below. none_alike axis c.args.c _ _ _ c.loop-k.k c.alike-alike.result here other c.alike-alike.ensures.same c.loop-k.invariant.1 j below,
    )

pub returns-then-count-k : goal.returns-then-count-k
returns-then-count-k c =
    let axis = c.args.self.now in
    let here = c.loop-k.invariant.0 c.loop-k-test.true in
    let other = ne_eqb _ _ (λ e. c.if-owner-c.false (c.owner.ensures.owner ∙ e)) in
    let last : (j : ℕ) → j < c.args.count → j < c.loop-k.k + c.alike-alike.result = λ j below. (let few = c.if-count-k.true in omega arith) in
    sym (any_none (λ t. owner_at axis t == c.args.c) (λ k. c.args.first +ℤ (pos k *ℤ c.args.step)) 0 c.args.count
    (λ j low high. rw (to_z-of_z c.ranges.first, to_z-of_z c.ranges.step) at (none_alike axis c.args.c _ _ _ c.loop-k.k c.alike-alike.result here other c.alike-alike.ensures.same c.loop-k.invariant.1 j (last j (omega arith)))))

pub returns-then-owner-c : goal.returns-then-owner-c
returns-then-owner-c c =
    let axis = c.args.self.now in
    let e = rw (to_z-of_z c.ranges.first, to_z-of_z c.ranges.step) at (c.loop-k.invariant.0 c.loop-k-test.true) in
    sym (any_at (λ t. owner_at axis t == c.args.c) (λ k. c.args.first +ℤ (pos k *ℤ c.args.step)) 0 c.args.count c.loop-k.k c.loop-k.k c.loop-k-test.true (omega arith)
    (eq-eqb _ _ (subst (λ (t : ℤ). owner_at axis t ≡ c.args.c) e (sym c.owner.ensures.owner ∙ c.if-owner-c.true))))

pub returns : goal.returns
returns c =
    let axis = c.args.self.now in
    sym (any_none (λ t. owner_at axis t == c.args.c) (λ k. c.args.first +ℤ (pos k *ℤ c.args.step)) 0 c.args.count
    (λ j low high. rw (to_z-of_z c.ranges.first, to_z-of_z c.ranges.step) at (c.loop-k.invariant.1 j (search rules))))
