-- Positions around one that are sure to have its owner, for the code within.
use Rattle.std.specs.Prelude.{ℕ, ◌≡◌, ◌+◌, ◌^◌, ◌<◌, ◌≤◌}
use Rattle.hpf_dist.specs.declared.around.Around.{Around}
use Rattle.hpf_dist.specs.declared.format.Format.{Format}
use Rattle.hpf_dist.specs.Owner.{own}

-- so many positions directly below the one with x before it, and so many directly above it, have its owner
pub record IsAround (format : Format) (n x : ℕ) (around : Around) : Type 0 where
  pub low : around.below ≤ x
  pub below : around.below < 2 ^ 32
  pub above : around.above < 2 ^ 32
  pub same : (y : ℕ) → x ≤ y + around.below → y ≤ x + around.above → own format n y ≡ own format n x
