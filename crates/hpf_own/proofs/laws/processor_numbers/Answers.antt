use Rattle.hpf_own.proofs.Numbers.{coordinates_below, one_number, some_number}
use Rattle.hpf_own.proofs.laws.processor_numbers.Goals as goal

pub returns-clause-below : goal.returns-clause-below
returns-clause-below c = coordinates_below

pub returns-clause-one_number : goal.returns-clause-one_number
returns-clause-one_number c = one_number

pub returns-clause-some_number : goal.returns-clause-some_number
returns-clause-some_number c = some_number
