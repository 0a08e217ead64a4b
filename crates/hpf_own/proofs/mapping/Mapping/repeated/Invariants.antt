use Rattle.hpf_own.specs.Owners.{holds}
use Rattle.hpf_own.specs.OwnerSet.{IsRepeated}
use Rattle.hpf_own.proofs.mapping.Mapping.repeated.Given as goal

abbrev pub invariant-loop-c : goal.invariant-loop-c
invariant-loop-c l = IsRepeated (holds l.self.dims l.index l.e) l.set l.stride l.c l.all
