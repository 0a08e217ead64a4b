use Rattle.hpf_own.specs.KeptLists.{no_width}
use Rattle.hpf_own.proofs.Filling.{IsFilling}
use Rattle.hpf_own.proofs.widths.Widths.new.Given as goal

abbrev pub invariant-loop-d : goal.invariant-loop-d
invariant-loop-d l = IsFilling no_width l.kept l.widths l.d
