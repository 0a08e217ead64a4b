use Rattle.std.proofs.Common.{sym, to_z-of_z, below_more, rules}
use Rattle.hpf_own.proofs.Linear.{first_in, first_owned}
use Rattle.hpf_own.proofs.image.least_of.Goals as goal

pub owner-last-requires-clause-low : goal.owner-last-requires-clause-low
owner-last-requires-clause-low c =
    rw (to_z-of_z c.ranges.first) (first_in c.args.axis.now c.args.first c.args.step c.args.count c.requires.some c.requires.positions).low

pub owner-last-requires-clause-high : goal.owner-last-requires-clause-high
owner-last-requires-clause-high c =
    rw (to_z-of_z c.ranges.first) (first_in c.args.axis.now c.args.first c.args.step c.args.count c.requires.some c.requires.positions).high

pub owns_any-requires : goal.owns_any-requires
owns_any-requires c =
    record { positions = rw (to_z-of_z c.ranges.first, to_z-of_z c.ranges.step) c.requires.positions }

pub returns-then-owns_any-clause-least : goal.returns-then-owns_any-clause-least
returns-then-owns_any-clause-least c =
    let i = rw (to_z-of_z c.ranges.first, to_z-of_z c.ranges.step) at c.loop-c.invariant in
    let o = rw (to_z-of_z c.ranges.first, to_z-of_z c.ranges.step) at c.if-owns_any.ensures in
    record { passes = sym o; least = i }

pub loop-c-preserved : goal.loop-c-preserved
loop-c-preserved c = below_more _ _ c.loop-c.invariant (sym c.if-owns_any.ensures)

pub returns-clause-least : goal.returns-clause-least
returns-clause-least c =
    let i = rw (to_z-of_z c.ranges.first, to_z-of_z c.ranges.step) at c.loop-c.invariant in
    let o = rw (to_z-of_z c.ranges.first) at c.owner-last.ensures.owner in
    record {
      passes = rw o (first_owned c.args.axis.now c.args.first c.args.step c.args.count c.requires.some);
      least = λ j below. i j (search rules);
    }
