use Rattle.hpf_map.proofs.landings.+settle.Given as goal

abbrev pub decreases-settle : goal.decreases-settle
decreases-settle l = l.steps
