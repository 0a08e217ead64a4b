use Rattle.std.proofs.Common.{[], ◌∷◌}
use Rattle.hpf_map.specs.Constraint.{breach}
use Rattle.hpf_map.proofs.FoundLemmas.{each_more}
use Rattle.hpf_map.proofs.dummy_places.note_each.Goals as goal

pub loop-spot-preserved : goal.loop-spot-preserved
loop-spot-preserved c =
    each_more (λ spot. breach c.args.constraint spot.at ∷ []) c.args.spots.now c.loop-spot.spot-index c.spot-item.result _ _ _
    c.loop-spot-test.true c.spot-item.is c.loop-spot.invariant c.note.ensures
