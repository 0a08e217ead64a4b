use Rattle.std.proofs.Common.{◌≡◌, ◌∙◌, ℕ, ap, sym, subst, arith, to_z-of_z}
use Rattle.hpf_dist.specs.Owner.{own}
use Rattle.hpf_dist.specs.Axis.{Divided}
use Rattle.hpf_dist.specs.declared.format.Format.{Format}
use Rattle.hpf_dist.proofs.Blocks.{own_in_block}
use Rattle.hpf_dist.proofs.axis.Axis.owner.Goals as goal

pub returns-in-GenBlock-clause-owner : goal.returns-in-GenBlock-clause-owner
returns-in-GenBlock-clause-owner c =
    let axis = c.self.inside in
    let x = c.positions_before-before.result in
    let suits = rw c.in-GenBlock.is at c.self.invariant.suits in
    let is = own_in_block c.in-GenBlock.lengths axis.procs x c.block_of.result (omega (arith, c.block_of.ensures.below, suits.each)) c.block_of.ensures.from c.block_of.ensures.to in
    let inside = subst (λ (f : Format). c.block_of.result ≡ own f axis.procs x) (sym c.in-GenBlock.is) (sym is) in
    let viewed = subst (λ (a : Divided). c.block_of.result ≡ own a.format a.procs x) c.self.view_is inside in
    viewed ∙ ap (λ (y : ℕ). own c.args.self.now.format c.args.self.now.procs y) (rw (to_z-of_z c.ranges.t) at c.positions_before-before.ensures.before)
