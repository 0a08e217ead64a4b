-- How a short list is kept: in seven places.
use Rattle.std.specs.Prelude.{ℕ, ◌≡◌, ◌-◌, ◌≤◌, List, ◌++◌, length, take, drop, replicate}
use Rattle.std.proofs.Common.{arith, take-append-drop}
use Rattle.std.proofs.lemmas.List.{length-take-le}
use Rattle.hpf_own.specs.Limits.{dimension_limit}

-- seven places, the first of them used, and the others filled up
pub record IsFilled {A : Type 0} (filler : A) (places : List A) (used : ℕ) : Type 0 where
  pub size : length places ≡ dimension_limit
  pub fits : used ≤ dimension_limit
  pub rest : drop used places ≡ replicate (dimension_limit - used) filler

-- the places that keep a list
abbrev pub filled : {A : Type 0} → A → List A → List A
filled filler items = items ++ replicate (dimension_limit - length items) filler

pub length-used : {A : Type 0} (filler : A) (places : List A) (used : ℕ) → IsFilled filler places used → length (take used places) ≡ used
length-used filler places used h = length-take-le used places (omega arith)

-- the places are those of the list that they keep
pub filled-take : {A : Type 0} (filler : A) (places : List A) (used : ℕ) → IsFilled filler places used → filled filler (take used places) ≡ places
filled-take filler places used h =
    rw (length-used filler places used h, ← h.rest) (take-append-drop used places)
