use Rattle.hpf_map.proofs.stages.+has_each.Given as goal

abbrev pub decreases-has_each : goal.decreases-has_each
decreases-has_each l = l.most
