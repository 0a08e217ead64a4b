-- Sets of processors, as lists.
use Rattle.std.specs.Prelude.{ℕ, ◌≡◌, ◌≤◌, ◌==◌, List, filter, length}
use Rattle.std.specs.Int.{bit_at}
use Rattle.std.specs.List.{range_with_len}
use Rattle.hpf_dist.specs.Limits.{processor_limit}

-- the numbers of a set, ascending
abbrev pub members : ℕ → List ℕ
members set = filter (λ k. bit_at set k == 1) (range_with_len 0 processor_limit)

-- so many of the places of a set of processors are used
pub record FitsIn (places : List ℕ) (used : ℕ) : Type 0 where
  pub size : length places ≡ processor_limit
  pub fits : used ≤ processor_limit
