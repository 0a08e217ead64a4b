use Rattle.hpf_own.proofs.Standing.{some_part}
use Rattle.hpf_own.proofs.laws.some_part.Goals as goal

pub returns : goal.returns
returns c = some_part
