-- Where walks from alignee to base end.
use Rattle.std.specs.Prelude.{◌≡◌, ℕ, List, slice_index_or}
use Rattle.hpf_map.specs.declared.way.Way.{Way}
use Rattle.hpf_map.specs.Ways.{walk_end}

-- Where one comes to from a name, by a list of where one comes to from the first names. One stays at any other.
abbrev pub target : List ℕ → ℕ → ℕ
target targets n = slice_index_or targets n n

-- from each name one comes to the end of its walk
pub record HasEnds (ways : List Way) (ends : List ℕ) : Type 0 where
  pub end : (n : ℕ) → target ends n ≡ walk_end ways n
