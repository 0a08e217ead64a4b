use Rattle.std.proofs.Common.{[], Vec, Global, arith}
use Rattle.std.proofs.lemmas.Option.{get_or_from_slice_get, slice_get_within}
use Rattle.hpf_sched.specs.declared.step.Move.{Move}
use Rattle.hpf_sched.proofs.Strides.{side_few, side_small}
use Rattle.hpf_sched.proofs.Shifts.{if_ok, entry, small_low, shift_fits, inner_is, shift_is, side_is}
use Rattle.hpf_sched.proofs.plan.moves_along.Goals as goal

pub overflow_sub-e : goal.overflow_sub-e
overflow_sub-e c = (entry c.as_slice.result.now c.args.perm.now c.args.d c.as_slice.ensures.same c.as_slice.ensures.perm c.requires.dimension).0

pub at-requires : goal.at-requires
at-requires c =
    let e = entry c.as_slice.result.now c.args.perm.now c.args.d c.as_slice.ensures.same c.as_slice.ensures.perm c.requires.dimension in
    omega (arith, e.1, c.requires.agree.before)

pub stride-requires : goal.stride-requires
stride-requires c =
    let e = entry c.as_slice.result.now c.args.perm.now c.args.d c.as_slice.ensures.same c.as_slice.ensures.perm c.requires.dimension in
    omega (arith, e.1, c.requires.owned)

pub runs-requires : goal.runs-requires
runs-requires c =
    let e = entry c.as_slice.result.now c.args.perm.now c.args.d c.as_slice.ensures.same c.as_slice.ensures.perm c.requires.dimension in
    omega (arith, e.1, c.requires.owned)

pub overflow_sub-rise : goal.overflow_sub-rise
overflow_sub-rise c =
    let s = shift_fits c.at.result.low c.at-2.result.low
    (small_low c.args.before.now _ c.at.result c.requires.before c.at.ensures.run c.at.ensures.ordered)
    (small_low c.args.bounds.now _ c.at-2.result c.requires.bounds c.at-2.ensures.run c.at-2.ensures.ordered) in
    rw (inner_is c.at.result.low c.at-2.result.low s) s.shift

pub side_moves-requires-clause-shift : goal.side_moves-requires-clause-shift
side_moves-requires-clause-shift c =
    let s = shift_fits c.at.result.low c.at-2.result.low
    (small_low c.args.before.now _ c.at.result c.requires.before c.at.ensures.run c.at.ensures.ordered)
    (small_low c.args.bounds.now _ c.at-2.result c.requires.bounds c.at-2.ensures.run c.at-2.ensures.ordered) in
    rw (shift_is c.at.result.low c.at-2.result.low s) s.small

pub side_moves-requires-clause-owned : goal.side_moves-requires-clause-owned
side_moves-requires-clause-owned c =
    let m = c.runs.ensures.made in
    side_few c.args.owned.now m.0 _ c.runs.result.now c.products.ensures.one m.1 c.rank.ensures.few (slice_get_within m.0 _ _ m.2) (get_or_from_slice_get m.0 _ c.runs.result.now [] m.2)

pub side_moves-requires-clause-held : goal.side_moves-requires-clause-held
side_moves-requires-clause-held c =
    let m = c.runs-2.ensures.made in
    side_few c.args.held.now m.0 _ c.runs-2.result.now c.products.ensures.one m.1 c.rank-2.ensures.few (slice_get_within m.0 _ _ m.2) (get_or_from_slice_get m.0 _ c.runs-2.result.now [] m.2)

pub returns-clause-moves : goal.returns-clause-moves
returns-clause-moves c =
    let s = shift_fits c.at.result.low c.at-2.result.low
    (small_low c.args.before.now _ c.at.result c.requires.before c.at.ensures.run c.at.ensures.ordered)
    (small_low c.args.bounds.now _ c.at-2.result c.requires.bounds c.at-2.ensures.run c.at-2.ensures.ordered) in
    let m = c.runs.ensures.made in
    let n = c.runs-2.ensures.made in
    if_ok _ _ c.side_moves.result
    (λ (moves : Vec Move Global) is. λ os hs made there.
    let o = rw (c.places.ensures.one_way c.args.owned.now m.0 os m.1 made) at m.2 in
    let h = rw (c.places.ensures.one_way c.args.held.now n.0 hs n.1 there) at n.2 in
    side_is c.args.before.now c.args.bounds.now c.as_slice.result.now c.args.perm.now os hs c.args.d c.runs.result.now c.runs-2.result.now c.at.result c.at-2.result _ c.stride.result c.stride-2.result moves.items
    c.as_slice.ensures.same o h c.at.ensures.run c.at-2.ensures.run (shift_is c.at.result.low c.at-2.result.low s) (c.stride.ensures.stride os made) (c.stride-2.ensures.stride hs there) is)
    c.side_moves.ensures

pub returns-clause-small : goal.returns-clause-small
returns-clause-small c =
    if_ok _ _ c.side_moves.result
    (λ (moves : Vec Move Global) is. rw is (side_small c.runs.result.now c.runs-2.result.now _ c.stride.result c.stride-2.result (side_moves-requires-clause-owned c.before) (side_moves-requires-clause-held c.before) c.stride.ensures.few c.stride-2.ensures.few))
    c.side_moves.ensures
