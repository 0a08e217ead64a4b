-- The integers whose position a processor owns.
use Rattle.std.specs.Prelude.{ℕ, Bool, ◌&&◌, ◌==◌, List, filter, ℤ, ◌+ℤ◌, ◌*ℤ◌}
use Rattle.std.specs.Int.RustNames.{int_le}
use Rattle.hpf_num.specs.declared.run.Run.{Run}
use Rattle.hpf_num.specs.Run.{integers}
use Rattle.hpf_dist.specs.Axis.{Divided}
use Rattle.hpf_dist.specs.Spread.{owner_at}

-- whether a position is one of the dimension, and owned at a coordinate
abbrev pub is_share : Divided → ℕ → ℤ → Bool
is_share axis c t = (int_le axis.low t && int_le t axis.high) && (owner_at axis t == c)

-- the integers of a run whose linear image is (High Performance Fortran 2.0, Data Mapping, ALIGN and DISTRIBUTE)
abbrev pub shares : Divided → ℕ → ℤ → ℤ → Run → List ℤ
shares axis c a b bounds = filter (λ i. is_share axis c (a *ℤ i +ℤ b)) (integers bounds)
