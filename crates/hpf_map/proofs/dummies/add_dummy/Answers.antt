use Rattle.hpf_map.proofs.DummyLemmas.{contains_added}
use Rattle.hpf_map.proofs.dummies.add_dummy.Goals as goal

pub returns-in_ok-insert : goal.returns-in_ok-insert
returns-in_ok-insert c =
    λ word. rw c.in-Dummy.is (contains_added c.in-Dummy.dummy.word word _ _ (c.in_ok-insert.ensures.updates.0 word))
