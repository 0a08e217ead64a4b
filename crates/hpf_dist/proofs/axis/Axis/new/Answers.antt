use Rattle.std.proofs.Common.{◌≡◌, ◌∙◌, ◌+◌, ℤ, ◌≤ℤ◌, pos, negsuc, ◌-ℤ◌, ◌+ℤ◌, unsigned_abs, refl, arith}
use Rattle.std.proofs.lemmas.Int.{to_z-of_z, ints}
use Rattle.hpf_num.specs.Run.{or_zero}
use Rattle.hpf_dist.specs.Axis.{Divided, extent}
use Rattle.hpf_dist.proofs.Refusals.{refused_exactly}
use Rattle.hpf_dist.proofs.axis.Axis.new.Goals as goal

one_more : (d : ℤ) → pos 0 ≤ℤ d → or_zero (d +ℤ pos 1) ≡ unsigned_abs d + 1
one_more (pos n) some = refl
one_more (negsuc n) some = absurd (omega (arith, ints))

-- from a lower bound to an upper one there are as many integers as positions
as_many : (low high : ℤ) → low ≤ℤ high → or_zero (high -ℤ low +ℤ pos 1) ≡ extent low high
as_many low high order = one_more (high -ℤ low) (omega (arith, ints))

pub returns-in-Some-clause-refused : goal.returns-in-Some-clause-refused
returns-in-Some-clause-refused c =
    let low = c.ranges.low in
    let high = c.ranges.high in
    let counted = simp to_z-of_z at c.extent-positions.ensures in
    let same : c.extent-positions.result ≡ extent c.args.low c.args.high = counted ∙ as_many c.args.low c.args.high c.requires.bounds.order in
    refused_exactly Divided c.in-Some.refusal c.extent-positions.result _ c.args.procs c.args.format same c.in-Some.ensures
