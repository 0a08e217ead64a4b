-- A shelf has a place for each buffer, by number: the buffer, where it is at home, or nothing.
use Rattle.std.specs.Prelude.{ℕ, ◌+◌, ◌≡◌, ◌==◌, List, [], ◌∷◌, length, Option, Some, None, ◌<◌, ℤ, if◌then◌else◌, slice_set, get_or}
use Rattle.std.specs.List.{refill}
use Rattle.hpf_lend.specs.Plain.{Plain, home_of, home_with}

-- how often a number stands in a list
abbrev pub times : ℕ → List ℕ → ℕ
times k [] = 0
times k (x ∷ xs) = (if k == x then 1 else 0) + times k xs

-- whether the buffer with this number is missing, as 0 or 1: the places are numbered from `first` on
abbrev pub away : ℕ → List (Option Plain) → ℕ → ℕ
away first [] k = 0
away first (None ∷ shelf) k = (if k == first then 1 else 0) + away (first + 1) shelf k
away first (Some b ∷ shelf) k = away (first + 1) shelf k

-- how many buffers are at home
abbrev pub homes : List (Option Plain) → ℕ
homes [] = 0
homes (None ∷ shelf) = homes shelf
homes (Some b ∷ shelf) = 1 + homes shelf

-- the buffer at home that has the least number
abbrev pub least : List (Option Plain) → Option Plain
least [] = None
least (None ∷ shelf) = least shelf
least (Some b ∷ shelf) = Some b

-- the shelf without that buffer
abbrev pub without_least : List (Option Plain) → List (Option Plain)
without_least [] = []
without_least (None ∷ shelf) = None ∷ without_least shelf
without_least (Some b ∷ shelf) = None ∷ shelf

-- each buffer stands at its number, and has so many values
abbrev pub IsShelf : ℕ → ℕ → List (Option Plain) → Type 0
IsShelf size first [] = Unit {0}
IsShelf size first (None ∷ shelf) = IsShelf size (first + 1) shelf
IsShelf size first (Some b ∷ shelf) = (home_of b ≡ home_with size first) × IsShelf size (first + 1) shelf

-- the shelf with a buffer at its number
abbrev pub with_buffer : List (Option Plain) → Plain → List (Option Plain)
with_buffer shelf b = slice_set shelf b.number (Some b)

-- a buffer with these values: there are as many as before
abbrev pub with_values : Plain → List ℤ → Plain
with_values b values = record b { values = refill (length b.values) b.values values }

-- the shelf with these values in its least buffer
abbrev pub with_least_values : List (Option Plain) → List ℤ → List (Option Plain)
with_least_values [] values = []
with_least_values (None ∷ shelf) values = None ∷ with_least_values shelf values
with_least_values (Some b ∷ shelf) values = Some (with_values b values) ∷ shelf

-- the least buffer stands at this place
pub record IsLeastAt (shelf : List (Option Plain)) (place : ℕ) : Type 0 where
  pub buffer : Plain
  pub in_range : place < length shelf
  pub here : get_or shelf place None ≡ Some buffer
  pub first : least shelf ≡ Some buffer
  pub written : (values : List ℤ) → with_least_values shelf values ≡ slice_set shelf place (Some (with_values buffer values))
