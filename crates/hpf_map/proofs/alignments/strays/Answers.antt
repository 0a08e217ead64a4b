use Rattle.std.proofs.Common.{rules, false, ◌∙◌, FitsSigned, w64, to_z-of_z}
use Rattle.hpf_map.specs.Alignments.{is_beyond}
use Rattle.hpf_map.proofs.OutsideLemmas.{strays_at_end, same_of_all}
use Rattle.hpf_map.proofs.alignments.strays.Goals as goal

pub returns-in-Along : goal.returns-in-Along
returns-in-Along c =
    let a : FitsSigned w64 c.in-Along.a = search rules in
    let b : FitsSigned w64 c.in-Along.b = search rules in
    let ends = rw (to_z-of_z a, to_z-of_z b, c.span_at.ensures) at c.an_end_strays.ensures in
    rw c.in-Along.is (ends ∙ strays_at_end c.element_order.ensures.every c.element_order.ensures.only c.args.array.now c.args.base c.in-Along.dim c.in-Along.a c.in-Along.b c.requires)

pub returns-in-Fixed : goal.returns-in-Fixed
returns-in-Fixed c =
    let n : FitsSigned w64 c.in-Fixed.position = search rules in
    let there = rw (to_z-of_z n) at c.is_fixed_beyond.ensures in
    rw c.in-Fixed.is (there ∙ same_of_all c.element_order.ensures.every c.args.array.now (is_beyond c.args.base c.in-Fixed.position) c.requires)

pub returns-in-Spread : goal.returns-in-Spread
returns-in-Spread c = rw c.in-Spread.is (same_of_all c.element_order.ensures.every c.args.array.now false c.requires)
