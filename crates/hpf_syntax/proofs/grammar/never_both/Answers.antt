use Rattle.hpf_syntax.proofs.OneFault.{no_fault}
use Rattle.hpf_syntax.proofs.grammar.never_both.Goals as goal

pub returns : goal.returns
returns c = no_fault
