-- A buffer as a number and a list.
use Rattle.std.specs.Prelude.{ℕ, ℤ, List, length}

pub record Plain : Type 0 where
  pub number : ℕ
  pub values : List ℤ

-- a buffer as it comes home: its number, and how many values it has
pub record Home : Type 0 where
  pub number : ℕ
  pub size : ℕ

abbrev pub home_of : Plain → Home
home_of b = record { number = b.number; size = length b.values }

-- the home with this number, of buffers that have so many values
abbrev pub home_with : ℕ → ℕ → Home
home_with size number = record { number = number; size = size }
