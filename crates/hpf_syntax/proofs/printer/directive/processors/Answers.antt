use Rattle.std.proofs.Common.{append_assoc}
use Rattle.hpf_syntax.proofs.printer.directive.processors.Goals as goal

pub returns : goal.returns
returns c = simp append_assoc at (rw c.in_ok-put.ensures at c.listed.ensures)
