use Rattle.hpf_lex.proofs.Order.{never_round, goes_on, one_first}
use Rattle.hpf_lex.proofs.laws.order_of_refusals.Goals as goal

pub returns : goal.returns
returns c = record { never_round = never_round; goes_on = goes_on; one_first = one_first }
