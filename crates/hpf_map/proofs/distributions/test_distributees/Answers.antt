use Rattle.std.proofs.Common.{ap, ◌∙◌}
use Rattle.hpf_map.specs.Distributions.{distributee_breaches, count_differs}
use Rattle.hpf_map.specs.Found.{least_with}
use Rattle.hpf_map.proofs.FoundLemmas.{each_more}
use Rattle.hpf_map.proofs.distributions.test_distributees.Goals as goal

pub loop-distributee-preserved : goal.loop-distributee-preserved
loop-distributee-preserved c =
    each_more (distributee_breaches c.args.names.now c.args.count) c.args.distributees.now c.loop-distributee.distributee-index c.distributee-item.result _ _ _
    c.loop-distributee-test.true c.distributee-item.is c.loop-distributee.invariant
    (c.test_count.ensures ∙ ap (λ s. least_with c.loop-distributee.breaches (count_differs c.args.count c.distributee-item.result s)) c.shape_of-shape.ensures.shape)
