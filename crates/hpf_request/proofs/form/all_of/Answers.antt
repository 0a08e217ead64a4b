use Rattle.hpf_request.proofs.Formed.{whole_is}
use Rattle.hpf_request.proofs.form.all_of.Goals as goal

pub returns-clause-elements : goal.returns-clause-elements
returns-clause-elements c =
    whole_is c.element_order.ensures.only c.bounds.result.now c.args.mapping.now.bounds c.in_ok-whole.field-0 c.owned-2.result c.bounds.ensures.same c.in_ok-whole.ensures c.owned-2.ensures
