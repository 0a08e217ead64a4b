-- How many processors an arrangement has at most (this project sets it).
use Rattle.std.specs.Prelude.{ℕ}

abbrev pub processor_limit : ℕ
processor_limit = 64
