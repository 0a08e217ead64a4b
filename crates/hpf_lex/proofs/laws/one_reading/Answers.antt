use Rattle.hpf_lex.proofs.Order.{some_reading, never_both, one_list, one_fault}
use Rattle.hpf_lex.proofs.laws.one_reading.Goals as goal

pub returns : goal.returns
returns c = record { some = some_reading; never_both = never_both; one_list = one_list; one_fault = one_fault }
