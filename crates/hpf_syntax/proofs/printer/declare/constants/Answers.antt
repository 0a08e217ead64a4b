use Rattle.std.proofs.Common.{append_assoc}
use Rattle.hpf_syntax.proofs.printer.declare.constants.Goals as goal

pub returns : goal.returns
returns c = simp append_assoc at (rw (c.in_ok-put-2.ensures, c.in_ok-dimension.ensures, c.in_ok-put.ensures) at c.listed.ensures)
