use Rattle.std.proofs.Common.{◌≡◌, ℤ, ◌+ℤ◌, ◌*ℤ◌, to_z-of_z, sym, ◌∙◌}
use Rattle.hpf_dist.specs.Shares.{is_share}
use Rattle.hpf_dist.proofs.Sharing.{small_fits, product_fits, linear_fits, passing_below, one_passes, one_fails}
use Rattle.hpf_dist.proofs.axis.Axis.runs_of.Goals as goal
use Rattle.hpf_dist.proofs.axis.Axis.runs_of.Goals.{then-is_share+in_ok-push, else-is_share}

pub overflow_mul-a : goal.overflow_mul-a
overflow_mul-a c =
    let e = c.at-i.ensures in
    rw (to_z-of_z c.ranges.a, to_z-of_z (small_fits _ e.small)) (product_fits c.args.a c.at-i.result c.requires.factor e.small)

pub overflow_add-a : goal.overflow_add-a
overflow_add-a c =
    let e = c.at-i.ensures in
    let p = product_fits c.args.a c.at-i.result c.requires.factor e.small in
    rw (to_z-of_z c.ranges.a, to_z-of_z (small_fits _ e.small), to_z-of_z p, to_z-of_z c.ranges.b)
    (linear_fits c.args.a c.at-i.result c.args.b c.requires.factor e.small c.requires.offset)

pub push-requires-clause-above : goal.push-requires-clause-above
push-requires-clause-above c =
    let e = c.at-i.ensures in
    let p = λ (i : ℤ). is_share c.args.self.now c.args.c ((c.args.a *ℤ i) +ℤ c.args.b) in
    rw (to_z-of_z (small_fits _ e.small), rw (to_z-of_z c.ranges.a, to_z-of_z c.ranges.b) at c.loop-k.invariant)
    (passing_below p c.args.bounds c.loop-k.k c.at-i.result e.integer)

pub loop-k-preserved : goal.loop-k-preserved
loop-k-preserved c =
    let e = c.at-i.ensures in
    let i = c.at-i.result in
    let f = small_fits i e.small in
    let m = product_fits c.args.a i c.requires.factor e.small in
    let n = linear_fits c.args.a i c.args.b c.requires.factor e.small c.requires.offset in
    let p = λ (i : ℤ). is_share c.args.self.now c.args.c ((c.args.a *ℤ i) +ℤ c.args.b) in
    let tested : c.is_share.result ≡ p i = rw (to_z-of_z c.ranges.a, to_z-of_z f, to_z-of_z m, to_z-of_z c.ranges.b, to_z-of_z n) at c.is_share.ensures in
    let before = rw (to_z-of_z c.ranges.a, to_z-of_z c.ranges.b) at c.loop-k.invariant in
    rw (to_z-of_z c.ranges.a, to_z-of_z c.ranges.b)
    (elim c.if-is_share.branch [
      | then-is_share+in_ok-push w ↦
          one_passes p c.args.bounds c.loop-k.k i _ _ c.loop-k.runs c.if-is_share.runs e.integer (to_z-of_z f) (to_z-of_z f) (sym tested ∙ w.if-is_share.true) before (w.runs-is ∙ w.in_ok-push.ensures.ok)
      | else-is_share w ↦
          one_fails p c.args.bounds c.loop-k.k i c.loop-k.runs c.if-is_share.runs e.integer (sym tested ∙ w.if-is_share.false) before w.runs-is
    ])
