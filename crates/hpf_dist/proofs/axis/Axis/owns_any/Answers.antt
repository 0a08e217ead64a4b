use Rattle.std.proofs.Common.{◌≡◌, ◌==◌, ℤ, FitsSigned, ◌∙◌, pos, of_z, w64, to_z-of_z, arith}
use Rattle.std.proofs.lemmas.Int.{ints}
use Rattle.hpf_dist.specs.Spread.{IsPosition, owner_at}
use Rattle.hpf_dist.proofs.Spreads.{any_of_one, all_of_one}
use Rattle.hpf_dist.proofs.axis.Axis.owns_any.Goals as goal
use Rattle.hpf_dist.proofs.axis.Axis.owns_any.Goals.{then-step-eq0, else-step-eq0}

no_step : (step : ℤ) → FitsSigned w64 step → of_z w64 step ≡ 0 → step ≡ pos 0
no_step step f e = omega (arith, ints)

pub owns_one_of-requires : goal.owns_one_of-requires
owns_one_of-requires c =
    record {
      positions = elim c.if-step-eq0.branch [
        | then-step-eq0 w ↦
            rw (to_z-of_z c.ranges.first, to_z-of_z c.ranges.step, w.tries-is, w.min-tries.ensures)
            (all_of_one (IsPosition c.args.self.now) c.args.first c.args.step c.args.count c.requires.positions)
        | else-step-eq0 w ↦ rw (to_z-of_z c.ranges.first, to_z-of_z c.ranges.step, w.tries-is) c.requires.positions
      ];
    }

pub returns : goal.returns
returns c =
    let r = rw (to_z-of_z c.ranges.first, to_z-of_z c.ranges.step) at c.owns_one_of.ensures in
    elim c.if-step-eq0.branch [
      | then-step-eq0 w ↦
          rw (w.tries-is, w.min-tries.ensures) at r
          ∙ any_of_one (λ t. owner_at c.args.self.now t == c.args.c) c.args.first c.args.step c.args.count (no_step c.args.step c.ranges.step w.if-step-eq0.true)
      | else-step-eq0 w ↦ rw w.tries-is at r
    ]
