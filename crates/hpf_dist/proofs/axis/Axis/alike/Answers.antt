use Rattle.std.proofs.Common.{◌≡◌, ◌*◌, ◌≤◌, true, false, ℤ, pos, ◌≤ℤ◌, ◌<ℤ◌, unsigned_abs, to_z-of_z, arith}
use Rattle.std.specs.Int.RustNames.{int_lt}
use Rattle.std.proofs.lemmas.Int.{ints}
use Rattle.hpf_dist.proofs.Alike.{alike_up, alike_down}
use Rattle.hpf_dist.proofs.axis.Axis.alike.Goals as goal
use Rattle.hpf_dist.proofs.axis.Axis.alike.Goals.{then-step-lt0, else-step-lt0}

is_down : (step : ℤ) → int_lt step (pos 0) ≡ true → step <ℤ pos 0
is_down step h = grind (arith, ints)

is_up : (step : ℤ) → int_lt step (pos 0) ≡ false → pos 0 ≤ℤ step
is_up step h = grind (arith, ints)

pub returns-clause-same : goal.returns-clause-same
returns-clause-same c = λ j less.
    let axis = c.args.self.now in
    let x = c.positions_before.result in
    let is = rw (to_z-of_z c.ranges.t) at c.positions_before.ensures.before in
    let width = rw (to_z-of_z c.ranges.step) at c.unsigned_abs.ensures.value in
    let within = c.stretch.ensures.within j less in
    let around = c.around-around.result in
    elim c.if-step-lt0.branch [
      | then-step-lt0 w ↦
          let down = is_down c.args.step (rw (to_z-of_z c.ranges.step) at w.if-step-lt0.true) in
          let few : j * unsigned_abs c.args.step ≤ around.below = rw (width, w.room-is) at within in
          alike_down axis c.args.t c.args.step j x around.below around.above c.requires.low is down few c.around-around.ensures
      | else-step-lt0 w ↦
          let up = is_up c.args.step (rw (to_z-of_z c.ranges.step) at w.if-step-lt0.false) in
          let few : j * unsigned_abs c.args.step ≤ around.above = rw (width, w.room-is) at within in
          alike_up axis c.args.t c.args.step j x around.below around.above c.requires.low is up few c.around-around.ensures
    ]
