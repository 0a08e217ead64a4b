use Rattle.std.proofs.Common.{[]}
use Rattle.hpf_own.specs.Image.{positions}
use Rattle.hpf_own.specs.Owners.{holds_at}
use Rattle.hpf_own.specs.OwnerSet.{IsRepeated}
use Rattle.hpf_own.proofs.image.BaseDim.set_below.Given as goal

abbrev pub invariant-loop-c : goal.invariant-loop-c
invariant-loop-c l = IsRepeated (holds_at l.self.cut (positions l.self.image [])) 1 1 l.c l.set
