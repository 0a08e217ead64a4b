use Rattle.hpf_own.proofs.Correspondence.{corresponds, corresponding_only, corresponding_within, received, one_received}
use Rattle.hpf_own.proofs.laws.correspondence.Goals as goal

pub returns-clause-corresponds : goal.returns-clause-corresponds
returns-clause-corresponds c = corresponds

pub returns-clause-one_before : goal.returns-clause-one_before
returns-clause-one_before c = corresponding_only

pub returns-clause-within : goal.returns-clause-within
returns-clause-within c = corresponding_within

pub returns-clause-received : goal.returns-clause-received
returns-clause-received c = received

pub returns-clause-one_received : goal.returns-clause-one_received
returns-clause-one_received c = one_received
