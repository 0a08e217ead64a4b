-- The lines of the marks of all processors.
use Rattle.std.specs.Prelude.{ℕ, ◌+◌, ℤ, List, [], ◌∷◌, ◌++◌, length, map}
use Rattle.hpf_report.specs.MarkLine.{mark_line}
use Rattle.hpf_request.specs.Parts.{Holding, holding_of}

-- a line for each part of the one stage, the first of which has this number
abbrev pub lines_of : ℕ → List Holding → List ℕ
lines_of proc [] = []
lines_of proc (part ∷ parts) = mark_line 0 proc (length part.positions) part.mark ++ lines_of (proc + 1) parts

-- the lines of all processors, which hold the elements at these places, over these frames
abbrev pub mark_lines : List (List ℕ) → List (List ℤ) → List ℕ
mark_lines lists frames = lines_of 0 (map (holding_of frames) lists)
