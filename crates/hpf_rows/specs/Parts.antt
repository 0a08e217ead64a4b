-- What mappings that are made by hand are made of.
use Rattle.std.specs.Prelude.{ℕ, List, [], ◌∷◌, ℤ, pos}
use Rattle.hpf_num.specs.declared.run.Run.{Run}
use Rattle.hpf_dist.specs.declared.format.Format.{Format}
use Rattle.hpf_own.specs.declared.image.Cut.{Cut}
use Rattle.hpf_own.specs.declared.image.Cut.TheVariants.{Over}

-- the bounds of A(high)
abbrev pub up_to : ℤ → List Run
up_to high = record { low = pos 1; high = high } ∷ []

-- T(high), divided so over a dimension of the arrangement
abbrev pub over : ℕ → ℤ → ℕ → Format → Cut
over dim high procs format = Over dim (record { low = pos 1; high = high; procs = procs; format = format })
