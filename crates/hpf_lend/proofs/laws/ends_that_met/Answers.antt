use Rattle.hpf_lend.proofs.Channels.{know_all, are_joined, entry_joined, exit_joined}
use Rattle.hpf_lend.proofs.laws.ends_that_met.Goals as goal

pub returns-clause-know : goal.returns-clause-know
returns-clause-know c = know_all

pub returns-clause-joined : goal.returns-clause-joined
returns-clause-joined c = are_joined

pub returns-clause-entry : goal.returns-clause-entry
returns-clause-entry c = entry_joined

pub returns-clause-exit : goal.returns-clause-exit
returns-clause-exit c = exit_joined
