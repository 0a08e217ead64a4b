use Rattle.std.proofs.Common.{◌≡◌, ℕ, ◌<◌, ◌≤◌, List, ℤ, length, map, take, filter, ap, ◌∙◌, subst, arith}
use Rattle.hpf_num.specs.Run.{integers}
use Rattle.hpf_own.specs.Space.{choices, indices}
use Rattle.hpf_own.specs.Mapping.{PlainMapping, IsMapping}
use Rattle.hpf_own.specs.Owners.{owns}
use Rattle.hpf_own.specs.Side.{is_side}
use Rattle.hpf_own.proofs.Boxes.{passing}
use Rattle.hpf_own.proofs.Parts.{owned_box, sides_more, sides_all, sides_rank, sides_few, part_is}
use Rattle.hpf_own.proofs.mapping.Mapping.owned.Goals as goal

pub loop-d-preserved : goal.loop-d-preserved
loop-d-preserved c =
    let m = c.args.self.now in
    let bounds = ap (λ (m : PlainMapping). length m.bounds) c.self.view_is in
    let below : c.loop-d.d < length m.bounds = omega (arith, c.rank-d-end.ensures) in
    sides_more (is_side m c.args.p) m.bounds c.loop-d.d c.in_ok-side.field-0 c.loop-d.sides.items c.push.new.self.items below c.in_ok-side.ensures c.loop-d.invariant c.in_ok-push.ensures.items

-- the lists of all dimensions
all_sides : (m : PlainMapping) (p d n : ℕ) (sides : List (List ℤ)) → n ≡ length m.bounds → n ≤ d → sides ≡ passing (is_side m p) (take d (map integers m.bounds)) → sides ≡ passing (is_side m p) (map integers m.bounds)
all_sides m p d n sides rank end so_far = sides_all (is_side m p) m.bounds d sides (omega arith) so_far

pub of-requires-clause-short : goal.of-requires-clause-short
of-requires-clause-short c =
    let m = c.args.self.now in
    let is : IsMapping m = subst IsMapping c.self.view_is c.self.invariant.mapping in
    let all = all_sides m c.args.p c.loop-d.d c.rank-d-end.result c.loop-d.sides.items (c.rank-d-end.ensures ∙ ap (λ (m : PlainMapping). length m.bounds) c.self.view_is) c.loop-d-test.false c.loop-d.invariant in
    omega (arith, sides_rank (is_side m c.args.p) m.bounds c.loop-d.sides.items all, is.bounds.short.few)

pub of-requires-clause-few : goal.of-requires-clause-few
of-requires-clause-few c =
    let m = c.args.self.now in
    let is : IsMapping m = subst IsMapping c.self.view_is c.self.invariant.mapping in
    let all = all_sides m c.args.p c.loop-d.d c.rank-d-end.result c.loop-d.sides.items (c.rank-d-end.ensures ∙ ap (λ (m : PlainMapping). length m.bounds) c.self.view_is) c.loop-d-test.false c.loop-d.invariant in
    sides_few (is_side m c.args.p) m c.loop-d.sides.items is all

pub of-requires-clause-some : goal.of-requires-clause-some
of-requires-clause-some c =
    let m = c.args.self.now in
    let is : IsMapping m = subst IsMapping c.self.view_is c.self.invariant.mapping in
    let all = all_sides m c.args.p c.loop-d.d c.rank-d-end.result c.loop-d.sides.items (c.rank-d-end.ensures ∙ ap (λ (m : PlainMapping). length m.bounds) c.self.view_is) c.loop-d-test.false c.loop-d.invariant in
    omega (arith, sides_rank (is_side m c.args.p) m.bounds c.loop-d.sides.items all, is.bounds.short.some)

pub returns : goal.returns
returns c =
    let m = c.args.self.now in
    let is : IsMapping m = subst IsMapping c.self.view_is c.self.invariant.mapping in
    let sides = c.loop-d.sides.items in
    let all = all_sides m c.args.p c.loop-d.d c.rank-d-end.result sides (c.rank-d-end.ensures ∙ ap (λ (m : PlainMapping). length m.bounds) c.self.view_is) c.loop-d-test.false c.loop-d.invariant in
    part_is c.of.result sides (length m.bounds) (filter (owns m c.args.p) (indices m.bounds)) (sides_rank (is_side m c.args.p) m.bounds sides all) (ap (λ (xs : List (List ℤ)). choices xs) all ∙ owned_box m c.args.p is c.requires) c.of.ensures
