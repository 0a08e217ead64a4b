-- Positions of a divided dimension that stand evenly apart.
use Rattle.std.specs.Prelude.{ℕ, List, map, ℤ, pos, ◌+ℤ◌, ◌*ℤ◌, ◌≤ℤ◌, ◌<◌}
use Rattle.std.specs.List.{range_with_len}
use Rattle.hpf_dist.specs.Owner.{own}
use Rattle.hpf_dist.specs.Axis.{Divided, before}

-- a position of the dimension
pub record IsPosition (axis : Divided) (t : ℤ) : Type 0 where
  pub low : axis.low ≤ℤ t
  pub high : t ≤ℤ axis.high

-- the coordinate that owns a position
abbrev pub owner_at : Divided → ℤ → ℕ
owner_at axis t = own axis.format axis.procs (before axis.low t)

-- each position is owned at one of the coordinates
abbrev pub HasOwners : Divided → Type 0
HasOwners axis = (t : ℤ) → IsPosition axis t → owner_at axis t < axis.procs

-- so many positions from the first on, each a step from the one before; a step may be negative or 0
abbrev pub spread : ℤ → ℤ → ℕ → List ℤ
spread first step count = map (λ k. first +ℤ (pos k *ℤ step)) (range_with_len 0 count)
