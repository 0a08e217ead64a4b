use Rattle.std.proofs.Common.{◌≡◌, ℕ, ◌<◌, false, get_or}
use Rattle.hpf_own.specs.Mapping.{divides}
use Rattle.hpf_own.proofs.Each.{no_dim}
use Rattle.hpf_own.proofs.common.common_over.Given as goal

abbrev pub invariant-loop-dim : goal.invariant-loop-dim
invariant-loop-dim l = (k : ℕ) → k < l.dim-index → divides l.e (get_or l.dims k no_dim).cut ≡ false
