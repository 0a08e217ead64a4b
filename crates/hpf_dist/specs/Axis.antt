-- One divided dimension.
use Rattle.std.specs.Prelude.{ℕ, ◌+◌, ◌≤◌, ℤ, pos, ◌-ℤ◌, ◌≤ℤ◌, neg_ℤ, unsigned_abs}
use Rattle.hpf_dist.specs.declared.format.Format.{Format}
use Rattle.hpf_dist.specs.Condition.{HasSmallNumbers, Suits}
use Rattle.hpf_num.specs.Limits.{integer_limit}
use Rattle.hpf_dist.specs.Limits.{processor_limit}

-- a dimension from low to high, divided over n processors
pub record Divided : Type 0 where
  pub low : ℤ
  pub high : ℤ
  pub procs : ℕ
  pub format : Format

-- how many positions lie from low to high, for low at most high
abbrev pub extent : ℤ → ℤ → ℕ
extent low high = unsigned_abs (high -ℤ low) + 1

-- how many positions lie before t
abbrev pub before : ℤ → ℤ → ℕ
before low t = unsigned_abs (t -ℤ low)

-- bounds of an index space (this project sets the limits)
pub record AreBounds (low high : ℤ) : Type 0 where
  pub least : neg_ℤ (pos integer_limit) ≤ℤ low
  pub order : low ≤ℤ high
  pub greatest : high ≤ℤ pos integer_limit
  pub positions : extent low high ≤ integer_limit

-- a number of processors (this project sets the limit)
pub record AreProcs (n : ℕ) : Type 0 where
  pub least : 1 ≤ n
  pub greatest : n ≤ processor_limit

-- A dimension that may be: bounds, a number of processors, and a format that suits them.
pub record IsAxis (axis : Divided) : Type 0 where
  pub bounds : AreBounds axis.low axis.high
  pub procs : AreProcs axis.procs
  pub small : HasSmallNumbers axis.format
  pub suits : Suits (extent axis.low axis.high) axis.procs axis.format
