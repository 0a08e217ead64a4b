use Rattle.hpf_lex.proofs.Order.{no_faults, has_tokens, first_fault}
use Rattle.hpf_lex.proofs.laws.first_fault.Goals as goal

pub returns : goal.returns
returns c = record { tokens = no_faults; no_fault = has_tokens; first = first_fault }
