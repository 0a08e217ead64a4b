use Rattle.std.proofs.Common.{List, ℕ}
use Rattle.hpf_own.specs.Mapping.{PlainMapping}
use Rattle.hpf_sched.specs.Transfer.{IsHop}
use Rattle.hpf_sched.proofs.Arriving.{Known, known_of, carried, filled}
use Rattle.hpf_sched.proofs.laws.parts_arrive.Goals as goal

known : (c : goal.After-products) (from to : PlainMapping) (perm : List ℕ) (q : ℕ) → IsHop from to perm → Known from to perm q
known c from to perm q hop = known_of from to perm q (record {
  only = c.element_order.ensures.only;
  every = c.element_order.ensures.every;
  corresponds = c.correspondence.ensures.corresponds;
  within = c.correspondence.ensures.within;
  exactly = c.one_sender.ensures.exactly;
  part = c.places.ensures.part;
}) hop c.element_order.ensures.once c.one_sender.ensures.below c.products.ensures.some

pub returns-clause-carries : goal.returns-clause-carries
returns-clause-carries c = λ from to perm p q value move hop below h. carried from to perm q (known c from to perm q hop) p value move below h

pub returns-clause-fills : goal.returns-clause-fills
returns-clause-fills c = λ from to perm q value part hop long each. filled from to perm q (known c from to perm q hop) value part long each
