use Rattle.std.proofs.Common.{ap}
use Rattle.hpf_lend.specs.Ends.{exit_of}
use Rattle.hpf_lend.proofs.GoingOn.{exit_lends, exit_ends, exit_takes_back, exit_waits, exit_itself, exit_onward}
use Rattle.hpf_lend.proofs.laws.an_exit_goes_on.Goals as goal

pub returns-clause-lends : goal.returns-clause-lends
returns-clause-lends c = exit_lends

pub returns-clause-ends : goal.returns-clause-ends
returns-clause-ends c = exit_ends

pub returns-clause-takes_back : goal.returns-clause-takes_back
returns-clause-takes_back c = exit_takes_back

pub returns-clause-waits : goal.returns-clause-waits
returns-clause-waits c = exit_waits

pub returns-clause-flushes : goal.returns-clause-flushes
returns-clause-flushes c = λ old new places same. ap (exit_of places) same

pub returns-clause-itself : goal.returns-clause-itself
returns-clause-itself c = exit_itself

pub returns-clause-onward : goal.returns-clause-onward
returns-clause-onward c = exit_onward
