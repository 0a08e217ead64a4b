use Rattle.hpf_own.proofs.Order.{indices_only, indices_has, indices_once, length-indices}
use Rattle.hpf_own.proofs.laws.element_order.Goals as goal

pub returns-clause-only : goal.returns-clause-only
returns-clause-only c = indices_only

pub returns-clause-every : goal.returns-clause-every
returns-clause-every c = indices_has

pub returns-clause-once : goal.returns-clause-once
returns-clause-once c = indices_once

pub returns-clause-size : goal.returns-clause-size
returns-clause-size c = length-indices
