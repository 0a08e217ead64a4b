use Rattle.std.proofs.Common.{append_assoc}
use Rattle.hpf_syntax.proofs.Printing.{of_several}
use Rattle.hpf_syntax.proofs.printer.directive.shadow.Goals as goal

pub returns-in_ok-print-in-Some : goal.returns-in_ok-print-in-Some
returns-in_ok-print-in-Some c =
    rw c.in-Some.ensures (simp append_assoc at (rw (c.in_ok-print-in-Some.ensures, c.in_ok-put.ensures) at c.enclosed.ensures))

pub returns-in_ok-enclosed-in-None : goal.returns-in_ok-enclosed-in-None
returns-in_ok-enclosed-in-None c =
    rw (of_several c.args.names.now _ _ c.in-None.ensures) (simp append_assoc (simp append_assoc at (rw (c.in_ok-enclosed-in-None.ensures, c.in_ok-put.ensures) at c.colons_names.ensures)))
