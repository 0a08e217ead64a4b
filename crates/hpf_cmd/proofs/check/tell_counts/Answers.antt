use Rattle.hpf_cmd.proofs.check.tell_counts.Goals as goal

pub returns : goal.returns
returns g c = c.flushed.ensures _ _ c.write_counts-given.ensures
