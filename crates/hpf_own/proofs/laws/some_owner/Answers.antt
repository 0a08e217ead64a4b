use Rattle.hpf_own.proofs.Numbers.{some_owner}
use Rattle.hpf_own.proofs.laws.some_owner.Goals as goal

pub returns : goal.returns
returns c = some_owner
