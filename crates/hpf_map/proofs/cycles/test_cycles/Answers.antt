use Rattle.std.proofs.Common.{false, get_or, ap, ◌∙◌}
use Rattle.hpf_map.specs.declared.constraint.Constraint.TheVariants.{Cycle}
use Rattle.hpf_map.specs.Constraint.{breach_if}
use Rattle.hpf_map.specs.Found.{least_with}
use Rattle.hpf_map.specs.Ways.{cycle_breaches}
use Rattle.hpf_map.proofs.WayLemmas.{use_at, each_use_more}
use Rattle.hpf_map.proofs.cycles.test_cycles.Goals as goal

pub loop-used-preserved : goal.loop-used-preserved
loop-used-preserved c =
    let used = use_at c.args.first.now c.loop-used.used-index in
    each_use_more (cycle_breaches c.args.ways.now) c.args.first.now c.loop-used.used-index _ _ _ c.loop-used-test.true c.loop-used.invariant
    (c.test_use.ensures
    ∙ ap (λ marks. least_with c.loop-used.breaches (breach_if (get_or marks used.name false) Cycle used.at)) c.as_slice.ensures.value
    ∙ ap (λ marked. least_with c.loop-used.breaches (breach_if marked Cycle used.at)) (c.in_ok-marks.ensures used.name))
