-- The greatest integer, and the limit of all that a mapping text counts (this project sets it).
use Rattle.std.specs.Prelude.{ℕ, ◌-◌, ◌^◌}

abbrev pub integer_limit : ℕ
integer_limit = 2 ^ 31 - 1
