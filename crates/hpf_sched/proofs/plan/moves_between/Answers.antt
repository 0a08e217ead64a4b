use Rattle.std.proofs.Common.{◌≡◌, ℕ, suc, ◌+◌, ◌-◌, ◌<◌, ◌≤◌, List, length, All, ap, sym, ◌∙◌, subst, arith}
use Rattle.hpf_sched.specs.declared.step.Move.{Move}
use Rattle.hpf_sched.specs.Lines.{crossed, box_moves, box_side, IsSmall}
use Rattle.hpf_sched.proofs.Strides.{crossed_small}
use Rattle.hpf_sched.proofs.plan.moves_between.Goals as goal

-- one dimension more, before the others
box_more : (sides : ℕ → List Move) (d n : ℕ) (lines side list : List Move) → 0 < d → d ≤ n → lines ≡ box_moves sides d (n - d) → side ≡ sides (d - 1) → list ≡ crossed lines side → list ≡ box_moves sides (d - 1) (n - (d - 1))
box_more sides d n lines side list some within l s is =
    let next : d - 1 + 1 ≡ d = omega arith in
    let more : n - (d - 1) ≡ suc (n - d) = omega arith in
    is ∙ ap (λ (ls : List Move). crossed ls side) l ∙ ap (λ (ss : List Move). crossed (box_moves sides d (n - d)) ss) s
    ∙ ap (λ (x : ℕ). crossed (box_moves sides x (n - d)) (sides (d - 1))) (sym next) ∙ ap (λ (x : ℕ). box_moves sides (d - 1) x) (sym more)

small_next : (n d : ℕ) (lines side list : List Move) → 0 < d → d ≤ n → All (IsSmall (n - d)) lines → All (IsSmall 1) side → list ≡ crossed lines side → All (IsSmall (n - (d - 1))) list
small_next n d lines side list some within l s is =
    let more : n - d + 1 ≡ n - (d - 1) = omega arith in
    rw is (subst (λ (x : ℕ). All (IsSmall x) (crossed lines side)) more (crossed_small (n - d) lines side l s))

pub loop-d-preserved : goal.loop-d-preserved
loop-d-preserved c =
    let lines = c.as_slice.ensures.value in
    let side = c.as_slice-in-loop-d.ensures.value in
    let is = rw (lines, side) at c.in_ok-moves.ensures in
    let n = length c.args.perm.now in
    record {
      within = omega arith;
      small = small_next n c.loop-d.d c.loop-d.moves.items c.in_ok-side.side.items c.in_ok-moves.moves.items c.loop-d-test.true c.loop-d.invariant.within c.loop-d.invariant.small c.in_ok-side.ensures.small is;
      moves = λ os hs made there. box_more (box_side c.args.before.now c.args.bounds.now c.args.perm.now os hs) c.loop-d.d n c.loop-d.moves.items c.in_ok-side.side.items c.in_ok-moves.moves.items
          c.loop-d-test.true c.loop-d.invariant.within (c.loop-d.invariant.moves os hs made there) (c.in_ok-side.ensures.moves os hs made there) is;
    }

pub returns-clause-moves : goal.returns-clause-moves
returns-clause-moves c = λ os hs made there.
    let none : c.loop-d.d ≡ 0 = omega arith in
    let sides = box_side c.args.before.now c.args.bounds.now c.args.perm.now os hs in
    let all : length c.args.perm.now - 0 ≡ length c.args.perm.now = omega arith in
    c.loop-d.invariant.moves os hs made there ∙ ap (λ (d : ℕ). box_moves sides d (length c.args.perm.now - d)) none ∙ ap (λ (k : ℕ). box_moves sides 0 k) all
