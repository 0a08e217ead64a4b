use Rattle.std.proofs.Common.{◌≡◌, sym, ◌∙◌, subst}
use Rattle.hpf_own.specs.Space.{StandOnce}
use Rattle.hpf_own.specs.Held.{Part}
use Rattle.hpf_sched.specs.Moves.{EntersInOrder}
use Rattle.hpf_sched.specs.Transfer.{transfer}
use Rattle.hpf_sched.proofs.Planning.{Pair, none_goes, goes_in_order, planned}
use Rattle.hpf_sched.proofs.route.Route.between.Goals as goal

pub returns-then-not-sends : goal.returns-then-not-sends
returns-then-not-sends c =
    let pair : Pair c.args.from.now c.args.to.now c.args.perm.now c.args.p c.args.q = record {
      laws = record {
        only = c.element_order.ensures.only;
        every = c.element_order.ensures.every;
        corresponds = c.correspondence.ensures.corresponds;
        within = c.correspondence.ensures.within;
        exactly = c.one_sender.ensures.exactly;
        part = c.places.ensures.part;
      };
      before = c.bounds-before.ensures.mapping;
      receiving = c.bounds-bounds.ensures.mapping;
      perm_is = c.as_slice.ensures.perm;
      agree = c.requires.agree;
      below = c.requires.sender;
    } in
    c.of.ensures ∙ c.new.ensures ∙ sym (none_goes c.args.from.now c.args.to.now c.args.perm.now c.args.p c.args.q pair (sym c.sends.ensures ∙ c.if-not-sends.true))

pub of-requires-2-clause-order : goal.of-requires-2-clause-order
of-requires-2-clause-order c =
    let pair : Pair c.args.from.now c.args.to.now c.args.perm.now c.args.p c.args.q = record {
      laws = record {
        only = c.element_order.ensures.only;
        every = c.element_order.ensures.every;
        corresponds = c.correspondence.ensures.corresponds;
        within = c.correspondence.ensures.within;
        exactly = c.one_sender.ensures.exactly;
        part = c.places.ensures.part;
      };
      before = c.bounds-before.ensures.mapping;
      receiving = c.bounds-bounds.ensures.mapping;
      perm_is = c.as_slice.ensures.perm;
      agree = c.requires.agree;
      below = c.requires.sender;
    } in
    let m = c.runs-2.ensures.made in
    let n = c.runs.ensures.made in
    let items = c.in_ok-moves.ensures.moves m.0 n.0 m.1 n.1 in
    let is : c.in_ok-chain.chain ≡ transfer c.args.from.now c.args.to.now c.args.perm.now c.args.p c.args.q =
    c.in_ok-chain.ensures ∙ c.as_slice-2.ensures.value
    ∙ planned c.args.from.now c.args.to.now c.args.perm.now c.args.p c.args.q pair c.bounds-before.result.now c.bounds-bounds.result.now c.args.owned.now c.args.held.now m.0 n.0 c.in_ok-moves.moves.items
    c.bounds-before.ensures.same c.bounds-bounds.ensures.same c.requires.owned c.requires.held (sym c.sends.ensures ∙ c.if-not-sends.false) m.1 n.1 c.rank-2.ensures.once c.rank.ensures.once items in
    subst EntersInOrder (sym is) (goes_in_order c.args.from.now c.args.to.now c.args.perm.now c.args.p c.args.q pair (subst (λ (part : Part). StandOnce part.indices) c.requires.held c.rank.ensures.once))

pub returns : goal.returns
returns c =
    let pair : Pair c.args.from.now c.args.to.now c.args.perm.now c.args.p c.args.q = record {
      laws = record {
        only = c.element_order.ensures.only;
        every = c.element_order.ensures.every;
        corresponds = c.correspondence.ensures.corresponds;
        within = c.correspondence.ensures.within;
        exactly = c.one_sender.ensures.exactly;
        part = c.places.ensures.part;
      };
      before = c.bounds-before.ensures.mapping;
      receiving = c.bounds-bounds.ensures.mapping;
      perm_is = c.as_slice.ensures.perm;
      agree = c.requires.agree;
      below = c.requires.sender;
    } in
    let m = c.runs-2.ensures.made in
    let n = c.runs.ensures.made in
    let items = c.in_ok-moves.ensures.moves m.0 n.0 m.1 n.1 in
    let is : c.in_ok-chain.chain ≡ transfer c.args.from.now c.args.to.now c.args.perm.now c.args.p c.args.q =
    c.in_ok-chain.ensures ∙ c.as_slice-2.ensures.value
    ∙ planned c.args.from.now c.args.to.now c.args.perm.now c.args.p c.args.q pair c.bounds-before.result.now c.bounds-bounds.result.now c.args.owned.now c.args.held.now m.0 n.0 c.in_ok-moves.moves.items
    c.bounds-before.ensures.same c.bounds-bounds.ensures.same c.requires.owned c.requires.held (sym c.sends.ensures ∙ c.if-not-sends.false) m.1 n.1 c.rank-2.ensures.once c.rank.ensures.once items in
    c.of-2.ensures ∙ is
