use Rattle.hpf_own.proofs.Alike.{same_owned, same_held, same_owners, same_sender}
use Rattle.hpf_own.proofs.laws.alike.Goals as goal

pub returns-clause-owned : goal.returns-clause-owned
returns-clause-owned c = λ m w p same below. same_owned c.element_order.ensures.only m w same p below

pub returns-clause-held : goal.returns-clause-held
returns-clause-held c = λ m w p same below. same_held c.element_order.ensures.only m w same p below

pub returns-clause-owners : goal.returns-clause-owners
returns-clause-owners c = λ m w index same lies. same_owners c.element_order.ensures.only m w same index lies

pub returns-clause-sender : goal.returns-clause-sender
returns-clause-sender c = λ m w index same lies. same_sender c.element_order.ensures.only m w same index lies
