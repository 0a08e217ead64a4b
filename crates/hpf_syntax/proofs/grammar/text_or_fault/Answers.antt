use Rattle.hpf_syntax.proofs.Parsing.{read_or_refused}
use Rattle.hpf_syntax.proofs.grammar.text_or_fault.Goals as goal

pub returns : goal.returns
returns c = read_or_refused
