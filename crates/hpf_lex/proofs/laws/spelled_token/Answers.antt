use Rattle.hpf_lex.proofs.Spelled.{found_where_spelled, no_blank}
use Rattle.hpf_lex.proofs.laws.spelled_token.Goals as goal

pub returns : goal.returns
returns c = record { found = found_where_spelled; no_blank = no_blank }
