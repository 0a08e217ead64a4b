-- Index spaces.
use Rattle.std.specs.Prelude.{ℕ, ◌≡◌, ◌*◌, ◌<◌, List, [], ◌∷◌, length, map, slice_index_or, ℤ}
use Rattle.std.specs.List.{flat_map}
use Rattle.hpf_num.specs.declared.run.Run.{Run}
use Rattle.hpf_num.specs.Run.{integers, extent, LiesWithin}

-- The lists that have one item of each of these lists, the first item varying fastest. For no list it is the one empty
-- list. Each list of items of the rest comes in order, and each item of the first is put before it.
abbrev pub choices : {A : Type 0} → List (List A) → List (List A)
choices [] = [] ∷ []
choices (items ∷ rest) = flat_map (λ chosen. map (λ item. item ∷ chosen) items) (choices rest)

-- the indices of an array, in element order: the first subscript varies fastest (Fortran 90, array element order)
abbrev pub indices : List Run → List (List ℤ)
indices bounds = choices (map integers bounds)

-- each item of a list stands in one place
abbrev pub StandOnce : {A : Type 0} → List A → Type 0
StandOnce {A} items = (i j : ℕ) (d : A) → i < length items → j < length items → slice_index_or items i d ≡ slice_index_or items j d → i ≡ j

-- an index lies in the bounds: an integer within each
abbrev pub LiesIn : List Run → List ℤ → Type 0
LiesIn [] [] = Unit {0}
LiesIn [] (i ∷ index) = ⊥
LiesIn (run ∷ bounds) [] = ⊥
LiesIn (run ∷ bounds) (i ∷ index) = LiesWithin run i × LiesIn bounds index

-- numbers multiplied, 1 for none
abbrev pub product : List ℕ → ℕ
product [] = 1
product (n ∷ ns) = n * product ns

-- the number of an array's elements (Fortran 90, the size of an array)
abbrev pub size_of : List Run → ℕ
size_of bounds = product (map extent bounds)

-- coordinates of a processor: one for each size, below it
abbrev pub AreCoordinates : List ℕ → List ℕ → Type 0
AreCoordinates [] [] = Unit {0}
AreCoordinates [] (c ∷ at) = ⊥
AreCoordinates (n ∷ sizes) [] = ⊥
AreCoordinates (n ∷ sizes) (c ∷ at) = (c < n) × AreCoordinates sizes at
