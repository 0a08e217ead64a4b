use Rattle.hpf_request.proofs.Verdicts.{one_verdict}
use Rattle.hpf_request.proofs.laws.one_verdict.Goals as goal

pub returns : goal.returns
returns c = λ words loader all v w is first second.
    one_verdict c.one_line.ensures (record {
      tokens = c.one_reading.ensures.one_list;
      no_tokens = c.one_reading.ensures.never_both;
      fault = c.one_reading.ensures.one_fault;
      items = c.one_text.ensures;
      no_items = c.never_both.ensures;
      refusal = c.one_fault.ensures;
      order = c.element_order.ensures.only;
    }) words loader all v w is first second
