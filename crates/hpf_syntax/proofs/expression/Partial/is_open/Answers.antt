use Rattle.hpf_syntax.proofs.Stacks.{open_from_empty}
use Rattle.hpf_syntax.proofs.expression.Partial.is_open.Goals as goal

pub returns : goal.returns
returns c = open_from_empty c.args.self.now.outer c.is_empty.result c.is_empty.ensures
