-- The subscripts of one dimension of an array that a processor may own, for the code within.
use Rattle.std.specs.Prelude.{ℕ, suc, ◌/◌, ◌%◌, Bool, ◌&&◌, true, false, ◌==◌, if◌then◌else◌, List, [], ◌∷◌, filter, find, slice_index_or, Option, Some, None, ℤ, ◌+ℤ◌, ◌*ℤ◌}
use Rattle.hpf_num.specs.Run.{integers}
use Rattle.hpf_dist.specs.Spread.{spread}
use Rattle.hpf_own.specs.declared.image.Image.{Image}
use Rattle.hpf_own.specs.declared.image.Image.TheVariants.{Along, Fixed, Spread}
use Rattle.hpf_own.specs.declared.image.Cut.{Cut}
use Rattle.hpf_own.specs.declared.image.BaseDim.{BaseDim}
use Rattle.hpf_own.specs.KeptLists.{no_run as no_bound}
use Rattle.hpf_own.specs.Mapping.{PlainMapping, divides}
use Rattle.hpf_own.specs.Owners.{holds_at}

-- whether an element with this subscript in dimension d may lie at a coordinate: where the dimension of the base follows
-- another one of the array, it may
abbrev pub side_in : ℕ → ℤ → ℕ → Image → Cut → Bool
side_in d x c (Along dim a b) cut = if dim == d then holds_at cut ((a *ℤ x +ℤ b) ∷ []) c else true
side_in d x c (Fixed n) cut = holds_at cut (n ∷ []) c
side_in d x c (Spread first step count) cut = holds_at cut (spread first step count) c

abbrev pub side_of : ℕ → ℤ → ℕ → Option BaseDim → Bool
side_of d x c None = false
side_of d x c (Some dim) = side_in d x c dim.image dim.cut

-- the same in the dimension of the base that is divided over dimension e of the arrangement
abbrev pub side_over : List BaseDim → ℕ → ℤ → ℕ → ℕ → Bool
side_over dims d x e c = side_of d x c (find (λ dim. divides e dim.cut) dims)

-- whether a number passes a test at each of its digits, of which there are so many for each size
abbrev pub at_each : List ℕ → (ℕ → ℕ → Bool) → ℕ → Bool
at_each [] test p = true
at_each (n ∷ sizes) test p = test 0 (p % n) && at_each sizes (λ e. test (suc e)) (p / n)

-- whether it may lie at the coordinates of a processor
abbrev pub is_side : PlainMapping → ℕ → ℕ → ℤ → Bool
is_side m p d x = at_each m.procs (side_over m.dims d x) p

-- such subscripts
abbrev pub side : PlainMapping → ℕ → ℕ → List ℤ
side m p d = filter (is_side m p d) (integers (slice_index_or m.bounds d no_bound))
