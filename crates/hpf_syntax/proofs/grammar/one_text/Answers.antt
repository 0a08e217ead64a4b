use Rattle.hpf_syntax.proofs.OneText.{one_list}
use Rattle.hpf_syntax.proofs.grammar.one_text.Goals as goal

pub returns : goal.returns
returns c = one_list
