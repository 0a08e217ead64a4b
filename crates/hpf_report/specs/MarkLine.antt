-- The line of a mark (this project defines it).
use Rattle.std.specs.Prelude.{ℕ, List, ◌++◌, codes}
use Rattle.std.specs.Fmt.{decimal}

-- `mark 0 1 held 3 sum 32`
abbrev pub mark_line : ℕ → ℕ → ℕ → ℕ → List ℕ
mark_line stage proc held sum =
    codes "mark " ++ decimal stage ++ codes " " ++ decimal proc ++ codes " held " ++ decimal held ++ codes " sum "
    ++ decimal sum ++ codes "\n"
