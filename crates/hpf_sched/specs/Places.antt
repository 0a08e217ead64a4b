-- Places in lists.
use Rattle.std.specs.Prelude.{ℕ, suc, Bool, if◌then◌else◌, List, [], ◌∷◌}

-- the place of an item in a list, from 0, by a test for being the same: how many items stand before it
abbrev pub place_by : {A : Type 0} → (A → A → Bool) → List A → A → ℕ
place_by same [] item = 0
place_by same (other ∷ items) item = if same other item then 0 else suc (place_by same items item)
