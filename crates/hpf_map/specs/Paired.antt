-- A list beside one of what may be there for each of its items (this project defines it).
use Rattle.std.specs.Prelude.{ℕ, List, [], ◌∷◌, ◌++◌, drop, Option, Some, None, slice_get}

-- what is there inside, where something is there
abbrev pub inner : {A : Type 0} → Option (Option A) → Option A
inner None = None
inner (Some x) = x

-- what stands at a place
abbrev pub at_place : {A : Type 0} → ℕ → List (Option A) → Option A
at_place k others = inner (slice_get others k)

-- what each item gives with what stands at its place
abbrev pub each_with : {A B C : Type 0} → (A → Option B → List C) → List A → List (Option B) → List C
each_with give [] others = []
each_with give (x ∷ xs) others = give x (at_place 0 others) ++ each_with give xs (drop 1 others)
