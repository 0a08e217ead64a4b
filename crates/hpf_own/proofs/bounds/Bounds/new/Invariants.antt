use Rattle.hpf_own.specs.KeptLists.{no_run}
use Rattle.hpf_own.proofs.Filling.{IsFilling}
use Rattle.hpf_own.proofs.bounds.Bounds.new.Given as goal

abbrev pub invariant-loop-d : goal.invariant-loop-d
invariant-loop-d l = IsFilling no_run l.kept l.runs l.d
