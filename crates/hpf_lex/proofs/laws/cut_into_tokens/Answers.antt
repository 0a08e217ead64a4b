use Rattle.hpf_lex.proofs.Cuts.{is_cut, only_cut}
use Rattle.hpf_lex.proofs.laws.cut_into_tokens.Goals as goal

pub returns : goal.returns
returns c = record { cut = is_cut; only = λ line column bytes tokens h. only_cut h }
