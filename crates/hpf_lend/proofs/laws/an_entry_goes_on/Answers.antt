use Rattle.std.proofs.Common.{ap}
use Rattle.hpf_lend.specs.Ends.{entry_of}
use Rattle.hpf_lend.proofs.GoingOn.{entry_takes, entry_waits, entry_gives, entry_itself, entry_onward}
use Rattle.hpf_lend.proofs.laws.an_entry_goes_on.Goals as goal

pub returns-clause-takes : goal.returns-clause-takes
returns-clause-takes c = entry_takes

pub returns-clause-waits : goal.returns-clause-waits
returns-clause-waits c = entry_waits

pub returns-clause-gives_back : goal.returns-clause-gives_back
returns-clause-gives_back c = entry_gives

pub returns-clause-flushes : goal.returns-clause-flushes
returns-clause-flushes c = λ old new places lost same. ap (entry_of places lost) same

pub returns-clause-itself : goal.returns-clause-itself
returns-clause-itself c = entry_itself

pub returns-clause-onward : goal.returns-clause-onward
returns-clause-onward c = entry_onward
