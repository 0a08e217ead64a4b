use Rattle.hpf_map.proofs.alignments.+add_dims.Given as goal

abbrev pub decreases-add_dims : goal.decreases-add_dims
decreases-add_dims l = l.count
