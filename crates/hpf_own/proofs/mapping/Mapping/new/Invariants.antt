use Rattle.hpf_own.specs.Common.{AreAllCommon}
use Rattle.hpf_own.proofs.mapping.Mapping.new.Given as goal

abbrev pub invariant-loop-e : goal.invariant-loop-e
invariant-loop-e l = AreAllCommon l.dims l.common
