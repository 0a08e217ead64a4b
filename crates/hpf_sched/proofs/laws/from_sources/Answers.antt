use Rattle.std.proofs.Common.{List, ℕ}
use Rattle.hpf_own.specs.Mapping.{PlainMapping}
use Rattle.hpf_sched.specs.Transfer.{IsHop}
use Rattle.hpf_sched.proofs.Arriving.{Known, known_of, arrival, enters, leaves}
use Rattle.hpf_sched.proofs.laws.from_sources.Goals as goal

known : (c : goal.After-products) (from to : PlainMapping) (perm : List ℕ) (q : ℕ) → IsHop from to perm → Known from to perm q
known c from to perm q hop = known_of from to perm q (record {
  only = c.element_order.ensures.only;
  every = c.element_order.ensures.every;
  corresponds = c.correspondence.ensures.corresponds;
  within = c.correspondence.ensures.within;
  exactly = c.one_sender.ensures.exactly;
  part = c.places.ensures.part;
}) hop c.element_order.ensures.once c.one_sender.ensures.below c.products.ensures.some

pub returns : goal.returns
returns c = λ from to perm p q move hop below h.
    let k = known c from to perm q hop in
    let a = arrival from to perm q k p move h in
    (a.index, enters from to perm q k p move a, leaves from to perm q k p move a below)
