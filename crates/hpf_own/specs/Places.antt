-- Places of indices by arithmetic.
use Rattle.std.specs.Prelude.{ℕ, ◌≡◌, ◌+◌, ◌*◌, List, [], ◌∷◌, slice_get, Some, ℤ, ◌-ℤ◌}
use Rattle.hpf_num.specs.declared.run.Run.{Run}
use Rattle.hpf_num.specs.Run.{or_zero}

-- the places of an index's subscripts in the lists of their dimensions
abbrev pub AreRanks : List (List ℤ) → List ℤ → List ℕ → Type 0
AreRanks [] [] [] = Unit {0}
AreRanks (items ∷ lists) (i ∷ index) (rank ∷ ranks) = (slice_get items rank ≡ Some i) × AreRanks lists index ranks
AreRanks lists index ranks = ⊥

-- The sum over the dimensions of a rank times the counts before it, multiplied: a step in the first dimension is as wide
-- as the number that stands in front, one in the next dimension so many times as wide as the first one has.
abbrev pub place_from : ℕ → List ℕ → List ℕ → ℕ
place_from width (count ∷ counts) (rank ∷ ranks) = rank * width + place_from (width * count) counts ranks
place_from width counts ranks = 0

abbrev pub place_of : List ℕ → List ℕ → ℕ
place_of = place_from 1

-- how many integers of each dimension's bounds lie before the subscript
abbrev pub ranks_in : List Run → List ℤ → List ℕ
ranks_in (run ∷ bounds) (i ∷ index) = or_zero (i -ℤ run.low) ∷ ranks_in bounds index
ranks_in bounds index = []
