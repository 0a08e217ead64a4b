use Rattle.std.proofs.Common.{◌≡◌, ◌==◌, ℕ, ◌<◌, false}
use Rattle.std.specs.List.{list_any}
use Rattle.hpf_dist.specs.Spread.{owner_at, spread}
use Rattle.hpf_own.proofs.image.least_of.Given as goal

abbrev pub invariant-loop-c : goal.invariant-loop-c
invariant-loop-c l = (j : ℕ) → j < l.c → list_any (λ u. owner_at l.axis u == j) (spread l.first l.step l.count) ≡ false
