use Rattle.std.proofs.Common.{ap, ◌∙◌, Some}
use Rattle.hpf_map.specs.declared.constraint.Constraint.TheVariants.{DummyTwice}
use Rattle.hpf_map.specs.Constraint.{breach_if}
use Rattle.hpf_map.specs.Found.{least_with}
use Rattle.hpf_map.specs.Hidden.{hides}
use Rattle.hpf_map.proofs.FoundLemmas.{each_more}
use Rattle.hpf_map.proofs.dummy_places.test_seen.Goals as goal

pub loop-spot-preserved : goal.loop-spot-preserved
loop-spot-preserved c =
    each_more (λ spot. breach_if (hides (Some c.args.seen.now) spot.word) DummyTwice spot.at) c.args.spots.now c.loop-spot.spot-index c.spot-item.result _ _ _
    c.loop-spot-test.true c.spot-item.is c.loop-spot.invariant
    (c.note_if.ensures ∙ ap (λ b. least_with c.loop-spot.breaches (breach_if b DummyTwice c.spot-item.result.at)) c.contains.ensures)
