use Rattle.std.proofs.Common.{ℤ, ◌+ℤ◌, ◌*ℤ◌, to_z-of_z}
use Rattle.hpf_num.specs.Runs.{has}
use Rattle.hpf_num.proofs.Members.{fits_small, front_filter_below, walk_more, product_fits, linear_fits}
use Rattle.hpf_num.proofs.runs.Runs.preimage.Goals as goal

pub overflow_mul-a : goal.overflow_mul-a
overflow_mul-a c =
    let e = c.at-i.ensures in
    rw (to_z-of_z c.ranges.a, to_z-of_z (fits_small _ e.small)) (product_fits c.args.a c.at-i.result c.requires.factor e.small)

pub overflow_add-a : goal.overflow_add-a
overflow_add-a c =
    let e = c.at-i.ensures in
    let p = product_fits c.args.a c.at-i.result c.requires.factor e.small in
    rw (to_z-of_z c.ranges.a, to_z-of_z (fits_small _ e.small), to_z-of_z p, to_z-of_z c.ranges.b)
    (linear_fits c.args.a c.at-i.result c.args.b c.requires.factor e.small c.requires.offset)

pub keep-requires-clause-above : goal.keep-requires-clause-above
keep-requires-clause-above c =
    let e = c.at-i.ensures in
    let p = λ (i : ℤ). has c.args.self.now ((c.args.a *ℤ i) +ℤ c.args.b) in
    rw (to_z-of_z (fits_small _ e.small), rw (to_z-of_z c.ranges.a, to_z-of_z c.ranges.b) at c.loop-k.invariant) (front_filter_below p c.args.bounds c.loop-k.k c.at-i.result e.integer)

pub keep-requires-clause-small : goal.keep-requires-clause-small
keep-requires-clause-small c =
    let e = c.at-i.ensures in rw (to_z-of_z (fits_small _ e.small)) e.small

pub loop-k-preserved : goal.loop-k-preserved
loop-k-preserved c =
    let e = c.at-i.ensures in
    let f = fits_small c.at-i.result e.small in
    let m = product_fits c.args.a c.at-i.result c.requires.factor e.small in
    let n = linear_fits c.args.a c.at-i.result c.args.b c.requires.factor e.small c.requires.offset in
    let p = λ (i : ℤ). has c.args.self.now ((c.args.a *ℤ i) +ℤ c.args.b) in
    rw (to_z-of_z c.ranges.a, to_z-of_z c.ranges.b)
    (walk_more p c.args.bounds c.loop-k.k c.at-i.result _ c.has.result c.loop-k.found c.keep.new.self e.integer (to_z-of_z f) (rw (to_z-of_z c.ranges.a, to_z-of_z f, to_z-of_z m, to_z-of_z c.ranges.b, to_z-of_z n) at c.has.ensures) (rw (to_z-of_z c.ranges.a, to_z-of_z c.ranges.b) at c.loop-k.invariant) c.in_ok-keep.ensures.ok)
