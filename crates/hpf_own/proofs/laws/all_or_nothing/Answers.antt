use Rattle.hpf_own.proofs.Sends.{sends_leads, sends_owned}
use Rattle.hpf_own.proofs.laws.all_or_nothing.Goals as goal

pub returns : goal.returns
returns c = λ m p index is below lies sent owned. sends_owned m p index is below lies (sends_leads m p is below sent) owned
