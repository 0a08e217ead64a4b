-- Runs of integers.
use Rattle.std.specs.Prelude.{ℕ, List, map, ℤ, pos, negsuc, ◌+ℤ◌, ◌-ℤ◌, ◌≤ℤ◌}
use Rattle.std.specs.List.{range_with_len}
use Rattle.hpf_num.specs.declared.run.Run.{Run}

-- a number, or 0 for a negative one
abbrev pub or_zero : ℤ → ℕ
or_zero (pos n) = n
or_zero (negsuc n) = 0

-- how many integers a run has
abbrev pub extent : Run → ℕ
extent run = or_zero (run.high -ℤ run.low +ℤ pos 1)

-- the integers of a run, ascending
abbrev pub integers : Run → List ℤ
integers run = map (λ k. run.low +ℤ pos k) (range_with_len 0 (extent run))

-- an integer lies in a run
pub record LiesWithin (run : Run) (i : ℤ) : Type 0 where
  pub least : run.low ≤ℤ i
  pub greatest : i ≤ℤ run.high
