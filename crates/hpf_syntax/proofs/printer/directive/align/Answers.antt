use Rattle.std.proofs.Common.{append_assoc}
use Rattle.hpf_syntax.proofs.Printing.{of_several}
use Rattle.hpf_syntax.proofs.printer.directive.align.Goals as goal

pub returns-in_ok-source_list-in-Some : goal.returns-in_ok-source_list-in-Some
returns-in_ok-source_list-in-Some c =
    rw c.in-Some.ensures (simp append_assoc at (rw (c.in_ok-source_list-in-Some.ensures, c.in_ok-print-in-Some.ensures, c.in_ok-put-in-Some.ensures, c.in_ok-put.ensures) at c.target.ensures))

pub returns-in_ok-target-in-None : goal.returns-in_ok-target-in-None
returns-in_ok-target-in-None c =
    rw (of_several c.args.names.now _ _ c.in-None.ensures) (simp append_assoc (simp append_assoc at (rw (c.in_ok-target-in-None.ensures, c.in_ok-source_list-in-None.ensures, c.in_ok-put.ensures) at c.colons_names.ensures)))
