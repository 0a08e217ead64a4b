-- What a processor owns and holds of a mapped array.
use Rattle.std.specs.Prelude.{ℕ, ◌≡◌, ◌≤◌, Bool, true, false, ◌&&◌, ◌⊎◌, List, [], ◌∷◌, length, filter, All, ℤ}
use Rattle.std.specs.List.{list_any}
use Rattle.hpf_num.specs.Runs.{AreMembers, is_near}
use Rattle.hpf_own.specs.declared.widths.Width.{Width}
use Rattle.hpf_own.specs.Space.{choices, indices}
use Rattle.hpf_own.specs.Mapping.{PlainMapping}
use Rattle.hpf_own.specs.Owners.{owns}
use Rattle.hpf_own.specs.Limits.{element_limit, dimension_limit}

-- whether an index lies within the widths of a shadow around another, in every dimension: corners count
abbrev pub is_around : List Width → List ℤ → List ℤ → Bool
is_around [] [] [] = true
is_around [] [] (i ∷ index) = false
is_around [] (j ∷ other) index = false
is_around (w ∷ widths) [] index = false
is_around (w ∷ widths) (j ∷ other) [] = false
is_around (w ∷ widths) (j ∷ other) (i ∷ index) = is_near w.low w.high j i && is_around widths other index

-- A processor holds an index where it owns one that has it in its shadow (this project defines it, after the Approved
-- Extensions of High Performance Fortran 2.0, SHADOW).
abbrev pub is_held : PlainMapping → ℕ → List ℤ → Bool
is_held m p index = list_any (λ other. owns m p other && is_around m.shadow other index) (indices m.bounds)

-- a list of indices, and the number of dimensions of their array
pub record Part : Type 0 where
  pub rank : ℕ
  pub indices : List (List ℤ)

-- the indices that a processor owns and those that it holds, in element order; a local place is a place in this list
abbrev pub owned_part : PlainMapping → ℕ → Part
owned_part m p = record { rank = length m.bounds; indices = filter (owns m p) (indices m.bounds) }

abbrev pub held_part : PlainMapping → ℕ → Part
held_part m p = record { rank = length m.bounds; indices = filter (is_held m p) (indices m.bounds) }

-- lists that all have items, or all have none
abbrev pub AreAllOrNone : {A : Type 0} → List (List A) → Type 0
AreAllOrNone lists = All (λ xs. 1 ≤ length xs) lists ⊎ All (λ xs. length xs ≡ 0) lists

-- A part is every index made of one integer of each of these ascending lists, which are all empty where it is.
pub record IsMadeOf (part : Part) (lists : List (List ℤ)) : Type 0 where
  pub rank : part.rank ≡ length lists
  pub every : part.indices ≡ choices lists
  pub members : All AreMembers lists
  pub all_or_none : AreAllOrNone lists

-- lists of which a part may be made (this project's limits)
pub record AreSides (lists : List (List ℤ)) : Type 0 where
  pub some : 1 ≤ length lists
  pub short : length lists ≤ dimension_limit
  pub members : All AreMembers lists
  pub all_or_none : AreAllOrNone lists
  pub few : length (choices lists) ≤ element_limit
