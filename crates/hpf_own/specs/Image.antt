-- Where the elements of an array lie in its base.
use Rattle.std.specs.Prelude.{ℕ, List, [], ◌∷◌, map, slice_index_or, ℤ, pos, ◌+ℤ◌, ◌*ℤ◌}
use Rattle.hpf_dist.specs.Spread.{spread}
use Rattle.hpf_own.specs.Space.{choices}
use Rattle.hpf_own.specs.declared.image.Image.{Image}
use Rattle.hpf_own.specs.declared.image.Image.TheVariants.{Along, Fixed, Spread}
use Rattle.hpf_own.specs.declared.image.BaseDim.{BaseDim}

-- the subscript of an index in a dimension, counted from 0
abbrev pub subscript : List ℤ → ℕ → ℤ
subscript index dim = slice_index_or index dim (pos 0)

-- The positions of an element in one dimension of the base: one along a dimension of the array or at a fixed place, or
-- all those over which the array is replicated (High Performance Fortran 2.0, Data Mapping, ALIGN).
abbrev pub positions : Image → List ℤ → List ℤ
positions (Along dim a b) index = (a *ℤ subscript index dim +ℤ b) ∷ []
positions (Fixed n) index = n ∷ []
positions (Spread first step count) index = spread first step count

-- The images of an element: the positions of the base that have one of these in each dimension.
abbrev pub images : List BaseDim → List ℤ → List (List ℤ)
images dims index = choices (map (λ d. positions d.image index) dims)
