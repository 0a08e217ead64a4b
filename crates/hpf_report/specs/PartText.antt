-- The values that a processor holds of a frame, as they are printed (this project defines it).
use Rattle.std.specs.Prelude.{ℕ, ℤ, List, ◌++◌, codes}
use Rattle.std.specs.Fmt.{decimal, signed_decimal}
use Rattle.std.specs.List.{flat_map}

-- what stands before the values, as `0 1:`: the numbers of the frame and of the processor
abbrev pub part_head : ℕ → ℕ → List ℕ
part_head frame proc = decimal frame ++ codes " " ++ decimal proc ++ codes ":"

-- a blank and a value
abbrev pub value_text : ℤ → List ℕ
value_text value = codes " " ++ signed_decimal value

-- the line of a part, as `0 1: 5 6`, or `0 3:` where it holds nothing
abbrev pub part_line : ℕ → ℕ → List ℤ → List ℕ
part_line frame proc values = part_head frame proc ++ flat_map value_text values ++ codes "\n"
