-- Moves made dimension by dimension, for the code within.
use Rattle.std.specs.Prelude.{ℕ, zero, suc, ◌+◌, ◌*◌, ◌^◌, ◌≤◌, List, [], ◌∷◌, length, map, take, filter, slice_index_or, ℤ, ◌+ℤ◌, ◌-ℤ◌}
use Rattle.std.specs.List.{flat_map}
use Rattle.std.specs.Ordering.{int_eq}
use Rattle.hpf_num.specs.declared.run.Run.{Run}
use Rattle.hpf_num.specs.Runs.{has}
use Rattle.hpf_own.specs.Space.{product}
use Rattle.hpf_own.specs.Correspondence.{bounds_at, source}
use Rattle.hpf_sched.specs.declared.step.Move.{Move}
use Rattle.hpf_sched.specs.Places.{place_by}

-- a move between the places of two others, added up
abbrev pub plus : Move → Move → Move
plus first second = record { from = first.from + second.from; to = first.to + second.to }

abbrev pub no_move : Move
no_move = record { from = 0; to = 0 }

-- each of these moves with each of those, of which the second varies fastest
abbrev pub crossed : List Move → List Move → List Move
crossed lines side = flat_map (λ line. map (plus line) side) lines

-- what a subscript of one dimension adds to both places
abbrev pub side_move : List ℤ → List ℤ → ℤ → ℕ → ℕ → ℤ → Move
side_move owned held shift from to x = record { from = place_by int_eq owned (x +ℤ shift) * from; to = place_by int_eq held x * to }

-- what the subscripts of one dimension do, of those that the receiver holds and the sender owns
abbrev pub side_moves : List ℤ → List ℤ → ℤ → ℕ → ℕ → List Move
side_moves owned held shift from to = map (side_move owned held shift from to) (filter (λ x. has owned (x +ℤ shift)) held)

-- the moves of so many dimensions from one on, of which these are the moves of each
abbrev pub box_moves : (ℕ → List Move) → ℕ → ℕ → List Move
box_moves sides d zero = no_move ∷ []
box_moves sides d (suc k) = crossed (box_moves sides (d + 1) k) (sides d)

-- places so small that seven of them can be added up
pub record IsSmall (n : ℕ) (move : Move) : Type 0 where
  pub from : move.from ≤ n * 2 ^ 48
  pub to : move.to ≤ n * 2 ^ 48

-- the moves along one dimension of the receiving array, where the parts are made of these lists
abbrev pub box_side : List Run → List Run → List ℕ → List (List ℤ) → List (List ℤ) → ℕ → List Move
box_side before bounds perm owned held d = side_moves (slice_index_or owned (source perm d) []) (slice_index_or held d [])
    ((bounds_at before (source perm d)).low -ℤ (bounds_at bounds d).low)
    (product (take (source perm d) (map length owned))) (product (take d (map length held)))
