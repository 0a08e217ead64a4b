-- Short lists: bounds, sizes and permutations.
use Rattle.std.specs.Prelude.{ℕ, ◌≤◌, ◌≤ℤ◌, List, length, All, IsPermutation}
use Rattle.std.specs.List.{range_with_len}
use Rattle.hpf_num.specs.declared.run.Run.{Run}
use Rattle.hpf_own.specs.Space.{product}
use Rattle.hpf_own.specs.Limits.{dimension_limit}
use Rattle.hpf_dist.specs.Limits.{processor_limit}

-- at least one entry, and at most seven (this project's limit for the dimensions of an array; Fortran 90 has the same)
pub record IsShort {A : Type 0} (entries : List A) : Type 0 where
  pub some : 1 ≤ length entries
  pub few : length entries ≤ dimension_limit

-- bounds of an array: each lower bound at most the upper one
pub record IsBounds (bounds : List Run) : Type 0 where
  pub short : IsShort bounds
  pub ordered : All (λ run. run.low ≤ℤ run.high) bounds

-- sizes of an arrangement of processors, of which there are at most 64 (this project sets the limit)
pub record IsSizes (sizes : List ℕ) : Type 0 where
  pub short : IsShort sizes
  pub some : All (λ size. 1 ≤ size) sizes
  pub few : product sizes ≤ processor_limit

-- a permutation of the numbers from 1 on
pub record IsPerm (dims : List ℕ) : Type 0 where
  pub short : IsShort dims
  pub permutes : IsPermutation (range_with_len 1 (length dims)) dims
