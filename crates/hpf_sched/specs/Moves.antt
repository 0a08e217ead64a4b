-- Moves of elements between two parts, and their runs. (This project defines them.)
use Rattle.std.specs.Prelude.{ℕ, ◌≡◌, ◌+◌, ◌<◌, ◌≤◌, ◌&&◌, ◌==◌, if◌then◌else◌, List, [], ◌∷◌, length, map, All, AllPairs}
use Rattle.std.specs.List.{flat_map, range_with_len}
use Rattle.hpf_sched.specs.declared.step.Move.{Move}
use Rattle.hpf_sched.specs.declared.step.Step.{Step}

-- the moves of a step, in order
abbrev pub moves_of : Step → List Move
moves_of step = map (λ k. record { from = step.from + k; to = step.to + k }) (range_with_len 0 step.length)

-- the moves of several steps, one step after another
abbrev pub moves : List Step → List Move
moves steps = flat_map moves_of steps

-- a step goes on where another ends: both places are those behind its last
pub record GoesOn (first second : Step) : Type 0 where
  pub from : second.from ≡ first.from + first.length
  pub to : second.to ≡ first.to + first.length

-- no step goes on where the one before it ends
abbrev pub EndsBefore : Step → List Step → Type 0
EndsBefore step [] = Unit {0}
EndsBefore step (next ∷ steps) = ¬ GoesOn step next

abbrev pub AreApart : List Step → Type 0
AreApart [] = Unit {0}
AreApart (step ∷ steps) = EndsBefore step steps × AreApart steps

-- none of these steps is empty, and each is as long as possible
pub record AreLongest (steps : List Step) : Type 0 where
  pub some : All (λ step. 1 ≤ step.length) steps
  pub apart : AreApart steps

-- The runs of moves are the stretches, as long as possible, in which both places rise by one.
pub record AreRuns (list : List Move) (steps : List Step) : Type 0 where
  pub cover : moves steps ≡ list
  pub longest : AreLongest steps

-- a move and the runs of those behind it: it joins the first of them, or is one by itself
abbrev pub joined : Move → List Step → List Step
joined move [] = record { from = move.from; to = move.to; length = 1 } ∷ []
joined move (step ∷ steps) = if (step.from == move.from + 1) && (step.to == move.to + 1)
    then record { from = move.from; to = move.to; length = step.length + 1 } ∷ steps
    else record { from = move.from; to = move.to; length = 1 } ∷ step ∷ steps

-- the runs of moves, from the last one on
abbrev pub runs : List Move → List Step
runs [] = []
runs (move ∷ list) = joined move (runs list)

-- no two moves enter one place, and places are entered in ascending order
abbrev pub EntersInOrder : List Move → Type 0
EntersInOrder list = AllPairs (λ first second. first.to < second.to) list

-- each place leads to itself
abbrev pub straight : ℕ → List Move
straight count = map (λ k. record { from = k; to = k }) (range_with_len 0 count)

-- steps with their number of moves, of which a route is kept
pub record IsKeptAs (steps : List Step) (elements : ℕ) : Type 0 where
  pub longest : AreLongest steps
  pub order : EntersInOrder (moves steps)
  pub number : elements ≡ length (moves steps)
