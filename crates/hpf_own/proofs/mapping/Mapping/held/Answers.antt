use Rattle.std.proofs.Common.{◌≡◌, ℕ, ◌<◌, ◌≤◌, List, ℤ, [], length, map, take, filter, get_or, slice_get, Some, ap, sym, ◌∙◌, subst, arith}
use Rattle.std.proofs.lemmas.Option.{get_or_from_slice_get}
use Rattle.std.proofs.lemmas.List.{get_or_default}
use Rattle.hpf_num.specs.declared.run.Run.{Run}
use Rattle.hpf_num.specs.Run.{integers}
use Rattle.hpf_own.specs.declared.widths.Width.{Width}
use Rattle.hpf_own.specs.KeptLists.{no_run as no_bound, no_width}
use Rattle.hpf_own.specs.Space.{choices, indices}
use Rattle.hpf_own.specs.Mapping.{PlainMapping, IsMapping}
use Rattle.hpf_own.specs.Owners.{owns}
use Rattle.hpf_own.specs.Held.{Part, is_held}
use Rattle.hpf_own.proofs.Boxes.{passing}
use Rattle.hpf_own.proofs.Parts.{near, near_is, held_box, sides_more, sides_all, sides_rank, sides_few, part_is}
use Rattle.hpf_own.proofs.mapping.Mapping.held.Goals as goal

pub loop-d-preserved : goal.loop-d-preserved
loop-d-preserved c =
    let m = c.args.self.now in
    let lists = c.sides-side-items.result.now in
    let d = c.loop-d.d in
    let rank : length lists ≡ length m.bounds = sym c.sides-side-items.ensures.rank ∙ ap (λ (p : Part). p.rank) c.in_ok-owned.ensures in
    let below : d < length m.bounds = omega arith in
    let widths : c.as_slice-widths.result.now ≡ m.shadow = c.as_slice-widths.ensures.same ∙ ap (λ (m : PlainMapping). m.shadow) c.self.view_is in
    let bounds = ap (λ (m : PlainMapping). m.bounds) c.self.view_is in
    let at : get_or m.bounds d no_bound ≡ c.at-bounds.result = get_or_from_slice_get m.bounds d c.at-bounds.result no_bound (subst (λ (bs : List Run). slice_get bs d ≡ Some c.at-bounds.result) bounds c.at-bounds.ensures.run) in
    let side : get_or lists d [] ≡ c.side-item.result = get_or_default lists d [] c.side-item.result (omega arith) ∙ sym c.side-item.is in
    let low : c.from.result ≡ (get_or m.shadow d no_width).low = c.from.ensures ∙ ap (λ (ws : List Width). (get_or ws d no_width).low) widths in
    let high : c.from-in-loop-d.result ≡ (get_or m.shadow d no_width).high = c.from-in-loop-d.ensures ∙ ap (λ (ws : List Width). (get_or ws d no_width).high) widths in
    let wide = near_is m.shadow lists d c.from.result c.from-in-loop-d.result c.side-item.result c.in_ok-wide.wide c.at-bounds.result (get_or m.bounds d no_bound) low high side (sym at) c.in_ok-wide.ensures in
    sides_more (near m.shadow lists) m.bounds d c.in_ok-wide.wide c.loop-d.sides.items c.push.new.self.items below wide c.loop-d.invariant c.in_ok-push.ensures.items

-- the lists of all dimensions
all_sides : (m : PlainMapping) (lists : List (List ℤ)) (d n : ℕ) (sides : List (List ℤ)) → n ≡ length m.bounds → n ≤ d → sides ≡ passing (near m.shadow lists) (take d (map integers m.bounds)) → sides ≡ passing (near m.shadow lists) (map integers m.bounds)
all_sides m lists d n sides rank end so_far = sides_all (near m.shadow lists) m.bounds d sides (omega arith) so_far

pub of-requires-clause-short : goal.of-requires-clause-short
of-requires-clause-short c =
    let m = c.args.self.now in
    let is : IsMapping m = subst IsMapping c.self.view_is c.self.invariant.mapping in
    let lists = c.sides-side-items.result.now in
    let rank : length lists ≡ length m.bounds = sym c.sides-side-items.ensures.rank ∙ ap (λ (p : Part). p.rank) c.in_ok-owned.ensures in
    let all = all_sides m lists c.loop-d.d (length lists) c.loop-d.sides.items rank c.loop-d-test.false c.loop-d.invariant in
    omega (arith, sides_rank (near m.shadow lists) m.bounds c.loop-d.sides.items all, is.bounds.short.few)

pub of-requires-clause-few : goal.of-requires-clause-few
of-requires-clause-few c =
    let m = c.args.self.now in
    let is : IsMapping m = subst IsMapping c.self.view_is c.self.invariant.mapping in
    let lists = c.sides-side-items.result.now in
    let rank : length lists ≡ length m.bounds = sym c.sides-side-items.ensures.rank ∙ ap (λ (p : Part). p.rank) c.in_ok-owned.ensures in
    let all = all_sides m lists c.loop-d.d (length lists) c.loop-d.sides.items rank c.loop-d-test.false c.loop-d.invariant in
    sides_few (near m.shadow lists) m c.loop-d.sides.items is all

pub of-requires-clause-some : goal.of-requires-clause-some
of-requires-clause-some c =
    let m = c.args.self.now in
    let is : IsMapping m = subst IsMapping c.self.view_is c.self.invariant.mapping in
    let lists = c.sides-side-items.result.now in
    let rank : length lists ≡ length m.bounds = sym c.sides-side-items.ensures.rank ∙ ap (λ (p : Part). p.rank) c.in_ok-owned.ensures in
    let all = all_sides m lists c.loop-d.d (length lists) c.loop-d.sides.items rank c.loop-d-test.false c.loop-d.invariant in
    omega (arith, sides_rank (near m.shadow lists) m.bounds c.loop-d.sides.items all, is.bounds.short.some)

pub returns : goal.returns
returns c =
    let m = c.args.self.now in
    let is : IsMapping m = subst IsMapping c.self.view_is c.self.invariant.mapping in
    let lists = c.sides-side-items.result.now in
    let rank : length lists ≡ length m.bounds = sym c.sides-side-items.ensures.rank ∙ ap (λ (p : Part). p.rank) c.in_ok-owned.ensures in
    let every : choices lists ≡ filter (owns m c.args.p) (indices m.bounds) = sym c.sides-side-items.ensures.every ∙ ap (λ (p : Part). p.indices) c.in_ok-owned.ensures in
    let sides = c.loop-d.sides.items in
    let all = all_sides m lists c.loop-d.d (length lists) sides rank c.loop-d-test.false c.loop-d.invariant in
    part_is c.of.result sides (length m.bounds) (filter (is_held m c.args.p) (indices m.bounds)) (sides_rank (near m.shadow lists) m.bounds sides all) (ap (λ (xs : List (List ℤ)). choices xs) all ∙ held_box m c.args.p lists is rank every) c.of.ensures
