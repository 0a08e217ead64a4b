use Rattle.std.proofs.Common.{append_assoc}
use Rattle.hpf_syntax.proofs.printer.pipeline.input.Goals as goal

pub returns : goal.returns
returns c = simp append_assoc at (rw (c.in_ok-buffer_count.ensures, c.in_ok-print.ensures, c.in_ok-put.ensures) at c.operation.ensures)
