use Rattle.hpf_lex.proofs.Numerals.{stands_for}
use Rattle.hpf_lex.proofs.laws.numeral.Goals as goal

pub returns : goal.returns
returns c = stands_for
