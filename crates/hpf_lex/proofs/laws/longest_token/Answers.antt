use Rattle.hpf_lex.proofs.Longest.{is_longest, no_token}
use Rattle.hpf_lex.proofs.laws.longest_token.Goals as goal

pub returns : goal.returns
returns c = record { longest = is_longest; bad_byte = no_token }
