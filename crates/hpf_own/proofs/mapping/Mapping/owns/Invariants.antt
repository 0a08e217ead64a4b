use Rattle.std.proofs.Common.{◌≡◌, ◌+◌, drop}
use Rattle.hpf_own.specs.Owners.{holds}
use Rattle.hpf_own.proofs.Digits.{passes}
use Rattle.hpf_own.proofs.mapping.Mapping.owns.Given as goal

abbrev pub invariant-loop-e : goal.invariant-loop-e
invariant-loop-e l =
    passes l.size-items (holds l.self.dims l.index) l.p ≡ passes (drop l.e l.size-items) (λ j. holds l.self.dims l.index (l.e + j)) l.rest
