use Rattle.hpf_request.proofs.Verdicts.{one_asked}
use Rattle.hpf_request.proofs.laws.one_asking.Goals as goal

pub returns : goal.returns
returns c = λ words a b m n first second. one_asked c.one_line.ensures words a b m n first second
