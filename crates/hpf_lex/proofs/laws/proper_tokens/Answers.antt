use Rattle.hpf_lex.proofs.Proper.{tokens_proper}
use Rattle.hpf_lex.proofs.laws.proper_tokens.Goals as goal

pub returns : goal.returns
returns c = tokens_proper
