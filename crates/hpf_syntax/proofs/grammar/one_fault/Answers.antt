use Rattle.hpf_syntax.proofs.OneFault.{one_refusal}
use Rattle.hpf_syntax.proofs.grammar.one_fault.Goals as goal

pub returns : goal.returns
returns c = one_refusal
