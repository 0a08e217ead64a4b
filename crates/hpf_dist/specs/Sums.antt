-- Sums of the first items of a list.
use Rattle.std.specs.Prelude.{ℕ, ◌+◌, List, map, take, length}
use Rattle.std.specs.List.{sum, range_with_len}

-- the sum of so many items, from the first on
abbrev pub sum_of_first : List ℕ → ℕ → ℕ
sum_of_first items n = sum (take n items)

-- the sum of the first item, of the first two, and so on
abbrev pub sums : List ℕ → List ℕ
sums items = map (λ k. sum_of_first items (k + 1)) (range_with_len 0 (length items))
