-- Places of the element order.
use Rattle.std.specs.Prelude.{ℕ, ◌≡◌, Bool, true, false, List, length, slice_get, Some, ℤ}
use Rattle.hpf_num.specs.declared.run.Run.{Run}
use Rattle.hpf_own.specs.Space.{indices}

-- An index stands at a place of the element order, from 0; or there is no such place, and this one is behind the last.
abbrev pub IsIndexAt : List Run → ℕ → List ℤ → Bool → Type 0
IsIndexAt bounds k index true = slice_get (indices bounds) k ≡ Some index
IsIndexAt bounds k index false = k ≡ length (indices bounds)
