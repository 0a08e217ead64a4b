use Rattle.std.proofs.Common.{◌++◌, ap, ◌∙◌}
use Rattle.std.specs.Prelude.{option_to_list}
use Rattle.hpf_map.specs.Shadows.{shadow_use}
use Rattle.hpf_map.proofs.WayLemmas.{filter_map_more}
use Rattle.hpf_map.proofs.shadows.add_uses.Goals as goal

pub loop-spot-preserved : goal.loop-spot-preserved
loop-spot-preserved c =
    filter_map_more (shadow_use c.args.names.now c.args.statement) c.args.spots.now c.loop-spot.spot-index c.spot-item.result _ _ _
    c.loop-spot-test.true c.spot-item.is c.loop-spot.invariant
    (c.in_ok-add_found.ensures ∙ ap (λ o. c.loop-spot.uses.items ++ option_to_list o) c.shadow_use.ensures)
