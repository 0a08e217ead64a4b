-- Values that are there only where all of them are (this project defines it).
use Rattle.std.specs.Prelude.{List, [], ◌∷◌, ◌++◌, Option, Some, None, option_map}

-- all the values, where each is there
unfoldable pub all_of : {A : Type 0} → List (Option A) → Option (List A)
all_of [] = Some []
all_of (None ∷ xs) = None
all_of (Some x ∷ xs) = option_map (λ ys. x ∷ ys) (all_of xs)

-- one value more
abbrev pub with_one : {A : Type 0} → Option (List A) → Option A → Option (List A)
with_one None x = None
with_one (Some xs) None = None
with_one (Some xs) (Some x) = Some (xs ++ x ∷ [])
