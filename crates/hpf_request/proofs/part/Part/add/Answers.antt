use Rattle.std.proofs.Common.{rules, arith, SFits, w64, w32, ◌∙◌, to_z, ◌+ℤ◌, ◌≡◌, get_or, pos, ◌-◌, ◌+◌, ℕ, ℤ, ap, List, take, refl}
use Rattle.std.specs.Int.{int_wrap, cast_unsigned}
use Rattle.std.proofs.lemmas.Int.{to_z-of_z}
use Rattle.std.proofs.lemmas.List.{take_all}
use Rattle.hpf_request.specs.Mark.{weighted}
use Rattle.hpf_request.specs.Part.{values_at}
use Rattle.hpf_request.specs.Parts.{Holding, marked_by}
use Rattle.hpf_request.proofs.Weights.{mark_step, mark_taken_in, remainder}
use Rattle.hpf_request.proofs.part.Part.add.Goals as goal

pub loop-before-preserved : goal.loop-before-preserved
loop-before-preserved c =
    let fits : SFits w64 c.with_value-mark.result = record { sfits = c.with_value-mark.type_inv } in
    let weight_fits : SFits w64 c.weight_of.result = record { sfits = c.weight_of.type_inv } in
    let read : ℤ = get_or c.args.frame.now (get_or c.deref-position-items.result.now c.loop-before.before 0 - 1) (pos 0) in
    let read_fits : SFits w32 read = search rules in
    let gives = simp to_z-of_z at c.with_value-mark.ensures in
    record {
      counted = omega arith;
      summed =
          to_z-of_z w64 c.with_value-mark.result fits
          ∙ mark_step _ (to_z w64 c.loop-before.mark-bits) c.weight_of.result _ c.with_value-mark.result (c.args.number + 1) c.args.frame.now c.deref-position-items.result.now c.loop-before.before c.loop-before-test.true refl c.weight_of.ensures c.loop-before.invariant.summed gives;
    }

pub returns : goal.returns
returns c =
    let positions : List ℕ = c.self.inside.positions.items in
    let mark : ℤ = c.self.inside.mark in
    let frame : List ℤ = c.args.frame.now in
    let fits : SFits w64 mark = search rules in
    let term : ℤ = weighted (c.args.number + 1) 1 (values_at frame positions) in
    let all : take c.loop-before.before c.deref-position-items.result.now ≡ positions =
    take_all c.loop-before.before c.deref-position-items.result.now c.loop-before-test.false ∙ c.deref-position-items.ensures.value in
    let kept : to_z w64 c.loop-before.mark-bits ≡ int_wrap w64 (mark +ℤ term) =
    c.loop-before.invariant.summed
    ∙ (ap (λ (z : ℤ). int_wrap w64 (z +ℤ weighted (c.args.number + 1) 1 (values_at frame (take c.loop-before.before c.deref-position-items.result.now)))) (to_z-of_z w64 mark fits)
    ∙ ap (λ (ps : List ℕ). int_wrap w64 (mark +ℤ weighted (c.args.number + 1) 1 (values_at frame ps))) all) in
    let new : cast_unsigned w64 (to_z w64 c.loop-before.mark-bits) ≡ remainder (pos (cast_unsigned w64 mark) +ℤ term) =
    ap (λ (z : ℤ). cast_unsigned w64 z) kept ∙ mark_taken_in mark term fits in
    ap (λ (m : ℕ). let part : Holding = record { positions = positions; mark = m } in part) new
    ∙ ap (λ (part : Holding). marked_by c.args.number frame part) c.self.view_is
