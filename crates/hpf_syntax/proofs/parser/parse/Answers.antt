use Rattle.hpf_syntax.proofs.Parsing.{answer_found, answer_only, answer_refused, answer_only_fault}
use Rattle.hpf_syntax.proofs.parser.parse.Goals as goal

pub returns-clause-found : goal.returns-clause-found
returns-clause-found c = answer_found c.args.tokens.now c.parse_slice.result (rw c.as_slice.ensures.items at c.parse_slice.ensures)

pub returns-clause-only : goal.returns-clause-only
returns-clause-only c = answer_only c.args.tokens.now c.parse_slice.result (rw c.as_slice.ensures.items at c.parse_slice.ensures)

pub returns-clause-refused : goal.returns-clause-refused
returns-clause-refused c = answer_refused c.args.tokens.now c.as_slice.ensures.whole c.parse_slice.result (rw c.as_slice.ensures.items at c.parse_slice.ensures)

pub returns-clause-only_fault : goal.returns-clause-only_fault
returns-clause-only_fault c =
    let says = rw c.as_slice.ensures.items at c.parse_slice.ensures in
    answer_only_fault c.args.tokens.now c.parse_slice.result
    (answer_found c.args.tokens.now c.parse_slice.result says) (answer_refused c.args.tokens.now c.as_slice.ensures.whole c.parse_slice.result says)
