use Rattle.std.proofs.Common.{ℤ, to_z-of_z}
use Rattle.std.specs.List.{list_any}
use Rattle.hpf_num.specs.Runs.{is_near}
use Rattle.hpf_num.proofs.Members.{fits_small, front_filter_below, walk_more}
use Rattle.hpf_num.proofs.runs.Runs.widen.Goals as goal

pub keep-requires-clause-above : goal.keep-requires-clause-above
keep-requires-clause-above c =
    let e = c.at-i.ensures in
    let p = λ (i : ℤ). list_any (λ j. is_near c.args.low c.args.high j i) c.args.self.now in
    rw (to_z-of_z (fits_small _ e.small), c.loop-k.invariant) (front_filter_below p c.args.bounds c.loop-k.k c.at-i.result e.integer)

pub keep-requires-clause-small : goal.keep-requires-clause-small
keep-requires-clause-small c =
    let e = c.at-i.ensures in rw (to_z-of_z (fits_small _ e.small)) e.small

pub loop-k-preserved : goal.loop-k-preserved
loop-k-preserved c =
    let e = c.at-i.ensures in
    let f = fits_small c.at-i.result e.small in
    let p = λ (i : ℤ). list_any (λ j. is_near c.args.low c.args.high j i) c.args.self.now in
    walk_more p c.args.bounds c.loop-k.k c.at-i.result _ c.has_near.result c.loop-k.near c.keep.new.self e.integer (to_z-of_z f) (rw (to_z-of_z f) at c.has_near.ensures) c.loop-k.invariant c.in_ok-keep.ensures.ok
