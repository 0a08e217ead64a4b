-- The owner along an axis.
use Rattle.std.specs.Prelude.{ℕ, ◌+◌, ◌-◌, ◌/◌, ◌%◌, Bool, ◌&&◌, nat_le, nat_lt, List, slice_index, find, unwrap_or}
use Rattle.std.specs.List.{range_with_len}
use Rattle.hpf_dist.specs.Sums.{sum_of_first}
use Rattle.hpf_dist.specs.declared.format.Format.{Format}
use Rattle.hpf_dist.specs.declared.format.Format.TheVariants.{Block, Cyclic, GenBlock, Indirect}

-- Whether the position with x before it lies in the block of coordinate c, where blocks of these lengths lie one after
-- another: those before c come to at most x, and together with its own to more (this project defines it).
abbrev pub is_in_block : List ℕ → ℕ → ℕ → Bool
is_in_block lengths x c = nat_le (sum_of_first lengths c) x && nat_lt x (sum_of_first lengths (c + 1))

-- The coordinate, below n, that owns the position with x before it (High Performance Fortran 2.0, Data Mapping,
-- DISTRIBUTE; for GEN_BLOCK and INDIRECT after its Approved Extensions, as this project takes them).
abbrev pub own : Format → ℕ → ℕ → ℕ
own (Block width) n x = x / width
own (Cyclic width) n x = (x / width) % n
own (GenBlock lengths) n x = unwrap_or (find (is_in_block lengths x) (range_with_len 0 n)) 0
own (Indirect places) n x = slice_index places x

-- the quotient rounded up
abbrev pub ceiling : ℕ → ℕ → ℕ
ceiling d n = (d + n - 1) / n

-- BLOCK without a width divides evenly, the last blocks being shorter or empty (High Performance Fortran 2.0).
abbrev pub even_block : ℕ → ℕ → Format
even_block d n = Block (ceiling d n)
