use Rattle.hpf_sched.proofs.Alike.{same_transfer}
use Rattle.hpf_sched.proofs.laws.alike.Goals as goal

pub returns : goal.returns
returns c = λ from to other receiving perm p q hop before behind sends holds.
    same_transfer from to other receiving perm p q
    (record {
      laws = record {
        only = c.element_order.ensures.only;
        every = c.element_order.ensures.every;
        corresponds = c.correspondence.ensures.corresponds;
        within = c.correspondence.ensures.within;
        exactly = c.one_sender.ensures.exactly;
        part = c.places.ensures.part;
      };
      before = hop.before;
      receiving = hop.receiving;
      perm_is = hop.permutes;
      agree = hop.agree;
      below = sends;
    })
    before behind (c.alike.ensures.owned from other p before sends) (c.alike.ensures.held to receiving q behind holds)
    (λ index. c.alike.ensures.sender from other index before)
