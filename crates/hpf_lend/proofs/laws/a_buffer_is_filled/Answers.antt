use Rattle.hpf_lend.proofs.Filling.{filled_lawful, filled_end, filled_exit, filled_values, filled_history}
use Rattle.hpf_lend.proofs.Shelves.{homes-values}
use Rattle.hpf_lend.proofs.laws.a_buffer_is_filled.Goals as goal

pub returns-clause-lawful : goal.returns-clause-lawful
returns-clause-lawful c = filled_lawful

pub returns-clause-end : goal.returns-clause-end
returns-clause-end c = filled_end

pub returns-clause-exit : goal.returns-clause-exit
returns-clause-exit c = filled_exit

pub returns-clause-home : goal.returns-clause-home
returns-clause-home c = λ x values. homes-values x.shelf values

pub returns-clause-values : goal.returns-clause-values
returns-clause-values c = filled_values

pub returns-clause-history : goal.returns-clause-history
returns-clause-history c = filled_history
