-- Elements of two arrays that correspond, as PERMUTE says: dimension d of the array that receives is a dimension of the
-- array before, and positions are counted from the lower bounds (this project defines it).
use Rattle.std.specs.Prelude.{ℕ, ◌≡◌, ◌+◌, ◌-◌, ◌<◌, ◌==◌, List, length, map, slice_index, slice_index_or, ℤ, ◌+ℤ◌, ◌-ℤ◌}
use Rattle.std.specs.List.{range_with_len, position_or_len}
use Rattle.hpf_num.specs.declared.run.Run.{Run}
use Rattle.hpf_num.specs.Run.{extent}
use Rattle.hpf_own.specs.KeptLists.{no_run as no_bound}
use Rattle.hpf_own.specs.Image.{subscript}

-- the bounds in a dimension, counted from 0
abbrev pub bounds_at : List Run → ℕ → Run
bounds_at bounds d = slice_index_or bounds d no_bound

-- how far an index lies above the lower bound of a dimension
abbrev pub offset : List Run → List ℤ → ℕ → ℤ
offset bounds index d = subscript index d -ℤ (bounds_at bounds d).low

-- the dimension of the array before, from 0, that dimension d of the receiving one is (a permutation counts from 1)
abbrev pub source : List ℕ → ℕ → ℕ
source perm d = slice_index perm d - 1

-- each dimension of the receiving array has the extent of its dimension of the array before
pub record ExtentsAgree (from to : List Run) (perm : List ℕ) : Type 0 where
  pub before : length from ≡ length perm
  pub receiving : length to ≡ length perm
  pub extents : (d : ℕ) → d < length perm → extent (bounds_at to d) ≡ extent (bounds_at from (source perm d))

-- element j of the array before and element i of the receiving one lie equally far above the lower bounds
pub record Corresponds (from to : List Run) (perm : List ℕ) (j i : List ℤ) : Type 0 where
  pub before : length j ≡ length perm
  pub receiving : length i ≡ length perm
  pub offsets : (d : ℕ) → d < length perm → offset from j (source perm d) ≡ offset to i d

-- the dimension of the receiving array that a dimension of the array before is, both from 0
abbrev pub destination : List ℕ → ℕ → ℕ
destination perm k = position_or_len (λ e. e == k + 1) perm

-- the element of the array before that corresponds to one of the receiving array
abbrev pub corresponding : List Run → List Run → List ℕ → List ℤ → List ℤ
corresponding from to perm i =
    map (λ k. (bounds_at from k).low +ℤ offset to i (destination perm k)) (range_with_len 0 (length perm))
