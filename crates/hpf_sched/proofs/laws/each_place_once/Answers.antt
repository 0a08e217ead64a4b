use Rattle.std.proofs.Common.{List, ℕ}
use Rattle.hpf_own.specs.Mapping.{PlainMapping}
use Rattle.hpf_sched.specs.Transfer.{IsHop}
use Rattle.hpf_sched.proofs.Arriving.{Known, known_of, some_enters, once_enters}
use Rattle.hpf_sched.proofs.laws.each_place_once.Goals as goal

known : (c : goal.After-products) (from to : PlainMapping) (perm : List ℕ) (q : ℕ) → IsHop from to perm → Known from to perm q
known c from to perm q hop = known_of from to perm q (record {
  only = c.element_order.ensures.only;
  every = c.element_order.ensures.every;
  corresponds = c.correspondence.ensures.corresponds;
  within = c.correspondence.ensures.within;
  exactly = c.one_sender.ensures.exactly;
  part = c.places.ensures.part;
}) hop c.element_order.ensures.once c.one_sender.ensures.below c.products.ensures.some

pub returns-clause-some : goal.returns-clause-some
returns-clause-some c = λ from to perm q place hop below. some_enters from to perm q (known c from to perm q hop) place below

pub returns-clause-once : goal.returns-clause-once
returns-clause-once c = λ from to perm q p r i j first second hop below within a b same.
    once_enters from to perm q (known c from to perm q hop) p r i j first second below within a b same
