-- How many dimensions an array and an arrangement of processors have at most, and how many elements an array (this
-- project sets the second; Fortran 90 has the first).
use Rattle.std.specs.Prelude.{ℕ, ◌^◌}

abbrev pub dimension_limit : ℕ
dimension_limit = 7

abbrev pub element_limit : ℕ
element_limit = 2 ^ 24
