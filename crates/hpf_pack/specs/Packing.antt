-- The values of a route. (This project defines them.)
use Rattle.std.specs.Prelude.{ℕ, ◌+◌, List, ◌++◌, take, drop, map, slice_index_or, ℤ, pos}
use Rattle.hpf_sched.specs.declared.step.Move.{Move}

-- the values at the places that moves leave, in order
abbrev pub packed : List Move → List ℤ → List ℤ
packed moves part = map (λ move. slice_index_or part move.from (pos 0)) moves

-- a list with so many values of another, from one place on, put at a place
abbrev pub copied : List ℤ → ℕ → List ℤ → ℕ → ℕ → List ℤ
copied from first into at count = take at into ++ (take count (drop first from) ++ drop (at + count) into)
