-- The element order lists every index once.
use Rattle.std.proofs.Common.{◌≡◌, ℕ, zero, suc, ◌+◌, ◌*◌, ◌/◌, ◌%◌, ◌<◌, List, [], ◌∷◌, length, map, get_or, Contains, ℤ, pos, negsuc, ◌+ℤ◌, ◌-ℤ◌, ◌≤ℤ◌, arith, mul_comm, sym, ap, ◌∙◌, subst, refl}
use Rattle.std.proofs.lemmas.Nat.{mod_below, div_below, mul-add-lt}
use Rattle.std.proofs.lemmas.Int.{ints}
use Rattle.std.proofs.lemmas.List.{get_or_default}
use Rattle.std.proofs.lemmas.List.Elements.{Contains-get_or}
use Rattle.std.proofs.lemmas.List.FromFn.{get_or-map-range_with_len, length-map-range_with_len}
use Rattle.hpf_num.specs.declared.run.Run.{Run}
use Rattle.hpf_num.specs.Run.{integers, extent, or_zero, LiesWithin}
use Rattle.hpf_own.specs.Space.{choices, product, indices, LiesIn, size_of}
use Rattle.hpf_own.proofs.Choices.{length-choices, get_or-choices}
use Rattle.hpf_own.specs.KeptLists.{no_run as no_bound}

-- one item of each list
abbrev pub Chooses : {A : Type 0} → List (List A) → List A → Type 0
Chooses [] [] = Unit {0}
Chooses [] (x ∷ xs) = ⊥
Chooses (items ∷ rest) [] = ⊥
Chooses (items ∷ rest) (x ∷ xs) = Contains items x × Chooses rest xs

length-choices_more : {A : Type 0} (items : List A) (rest : List (List A)) → length (choices (items ∷ rest)) ≡ length items * length (choices rest)
length-choices_more items rest = length-choices (items ∷ rest) ∙ ap (λ (n : ℕ). length items * n) (sym (length-choices rest))

-- a place among the choices is a place among the items and one among the choices of the rest
pub record IsSplit (n m k : ℕ) : Type 0 where
  pub whole : (k / n) * n + k % n ≡ k
  pub item : k % n < n
  pub chosen : k / n < m

pub split : (n m k : ℕ) → k < n * m → IsSplit n m k
split zero m k h = absurd (omega arith)
split (suc n) m k h =
    record {
      whole = omega arith;
      item = mod_below k (suc n) (omega arith);
      chosen = div_below k (suc n) m (omega arith) (rw (mul_comm m (suc n)) h);
    }

pub choices_only : {A : Type 0} (lists : List (List A)) (k : ℕ) (e : List A) (d : A) → k < length (choices lists) → Chooses lists (get_or (choices lists) k e)
choices_only [] zero e d below = tt
choices_only [] (suc k) e d below = absurd (omega arith)
choices_only {A} (items ∷ rest) k e d below =
    let n = length items in
    let s = split n (length (choices rest)) k (omega (arith, length-choices_more items rest)) in
    let at : get_or (choices (items ∷ rest)) k e ≡ get_or items (k % n) d ∷ get_or (choices rest) (k / n) e =
    ap (λ (j : ℕ). get_or (choices (items ∷ rest)) j e) (sym s.whole) ∙ get_or-choices items rest (k / n) (k % n) e d s.chosen s.item in
    rw at (Contains-get_or items (k % n) d s.item, choices_only rest (k / n) e d s.chosen)

pub choices_has : {A : Type 0} (lists : List (List A)) (xs : List A) → Chooses lists xs → Contains (choices lists) xs
choices_has [] [] h = (0, omega arith, refl)
choices_has [] (x ∷ xs) h = absurd h
choices_has (items ∷ rest) [] h = absurd h
choices_has {A} (items ∷ rest) (x ∷ xs) h =
    let item = h.0 in
    let chosen = choices_has rest xs h.1 in
    let n = length items in
    let place = chosen.0 * n + item.0 in
    let below : place < length (choices (items ∷ rest)) = omega (arith, length-choices_more items rest, mul-add-lt chosen.0 n item.0 (length (choices rest)) chosen.1 item.1) in
    let at = get_or-choices items rest chosen.0 item.0 (x ∷ xs) x chosen.1 item.1 in
    let same : get_or (choices rest) chosen.0 (x ∷ xs) ≡ xs = get_or_default (choices rest) chosen.0 (x ∷ xs) xs chosen.1 ∙ chosen.2 in
    (place, below, at ∙ ap (λ (y : A). y ∷ get_or (choices rest) chosen.0 (x ∷ xs)) item.2 ∙ ap (λ (ys : List A). x ∷ ys) same)

-- each item of a list stands in one place
abbrev pub EachOnce : {A : Type 0} → List A → Type 0
EachOnce {A} items = (i j : ℕ) (d : A) → i < length items → j < length items → get_or items i d ≡ get_or items j d → i ≡ j

abbrev pub AllOnce : {A : Type 0} → List (List A) → Type 0
AllOnce [] = Unit {0}
AllOnce (items ∷ rest) = EachOnce items × AllOnce rest

pub choices_once : {A : Type 0} (lists : List (List A)) (i j : ℕ) (e : List A) (d : A) → AllOnce lists → i < length (choices lists) → j < length (choices lists) → get_or (choices lists) i e ≡ get_or (choices lists) j e → i ≡ j
choices_once [] i j e d once below within same = omega arith
choices_once {A} (items ∷ rest) i j e d once below within same =
    let n = length items in
    let s = split n (length (choices rest)) i (omega (arith, length-choices_more items rest)) in
    let t = split n (length (choices rest)) j (omega (arith, length-choices_more items rest)) in
    let at : get_or (choices (items ∷ rest)) i e ≡ get_or items (i % n) d ∷ get_or (choices rest) (i / n) e =
    ap (λ (k : ℕ). get_or (choices (items ∷ rest)) k e) (sym s.whole) ∙ get_or-choices items rest (i / n) (i % n) e d s.chosen s.item in
    let to : get_or (choices (items ∷ rest)) j e ≡ get_or items (j % n) d ∷ get_or (choices rest) (j / n) e =
    ap (λ (k : ℕ). get_or (choices (items ∷ rest)) k e) (sym t.whole) ∙ get_or-choices items rest (j / n) (j % n) e d t.chosen t.item in
    let both : get_or items (i % n) d ∷ get_or (choices rest) (i / n) e ≡ get_or items (j % n) d ∷ get_or (choices rest) (j / n) e = sym at ∙ same ∙ to in
    let first : get_or items (i % n) d ≡ get_or items (j % n) d = cc in
    let others : get_or (choices rest) (i / n) e ≡ get_or (choices rest) (j / n) e = cc in
    let r : i % n ≡ j % n = once.0 (i % n) (j % n) d s.item t.item first in
    let q : i / n ≡ j / n = choices_once rest (i / n) (j / n) e d once.1 s.chosen t.chosen others in
    sym s.whole ∙ ap (λ (k : ℕ). k * n + i % n) q ∙ ap (λ (k : ℕ). (j / n) * n + k) r ∙ t.whole

-- ---- the integers of a run
at_least : (z : ℤ) (k : ℕ) → k < or_zero z → pos (k + 1) ≤ℤ z
at_least (pos n) k h = omega (arith, ints)
at_least (negsuc n) k h = absurd (omega arith)

pub at_most : (z : ℤ) (k : ℕ) → pos (k + 1) ≤ℤ z → k < or_zero z
at_most (pos n) k h = omega (arith, ints)
at_most (negsuc n) k h = absurd (omega (arith, ints))

pub or_zero_is : (z : ℤ) → pos 0 ≤ℤ z → pos (or_zero z) ≡ z
or_zero_is (pos n) h = refl
or_zero_is (negsuc n) h = absurd (omega (arith, ints))

pub extent_is : (run : Run) (k : ℕ) → k < extent run → LiesWithin run (run.low +ℤ pos k)
extent_is run k h =
    let l = at_least (run.high -ℤ run.low +ℤ pos 1) k h in
    record { least = omega (arith, ints); greatest = omega (arith, ints) }

pub integers_only : (run : Run) (k : ℕ) (d : ℤ) → k < length (integers run) → LiesWithin run (get_or (integers run) k d)
integers_only run k d below =
    let at : ℕ → ℤ = λ j. run.low +ℤ pos j in
    let within : k < extent run = omega (arith, length-map-range_with_len at 0 (extent run)) in
    rw (get_or-map-range_with_len at 0 (extent run) k k d within (omega arith)) (extent_is run k within)

pub integers_has : (run : Run) (x : ℤ) → LiesWithin run x → Contains (integers run) x
integers_has run x h =
    let at : ℕ → ℤ = λ j. run.low +ℤ pos j in
    let k = or_zero (x -ℤ run.low) in
    let is : pos k ≡ x -ℤ run.low = or_zero_is (x -ℤ run.low) (let z = h.least in omega (arith, ints)) in
    let within : k < extent run = at_most (run.high -ℤ run.low +ℤ pos 1) k (let z = h.greatest in omega (arith, ints)) in
    (k, omega (arith, length-map-range_with_len at 0 (extent run)), get_or-map-range_with_len at 0 (extent run) k k x within (omega arith) ∙ omega (arith, ints))

apart : (low : ℤ) (i j : ℕ) → low +ℤ pos i ≡ low +ℤ pos j → i ≡ j
apart low i j e = omega (arith, ints)

pub integers_once : (run : Run) → EachOnce (integers run)
integers_once run = λ i j d below within same.
    let at : ℕ → ℤ = λ k. run.low +ℤ pos k in
    let many = length-map-range_with_len at 0 (extent run) in
    let a = get_or-map-range_with_len at 0 (extent run) i i d (omega arith) (omega arith) in
    let b = get_or-map-range_with_len at 0 (extent run) j j d (omega arith) (omega arith) in
    apart run.low i j (sym a ∙ same ∙ b)

-- ---- indices
lies_in : (bounds : List Run) (index : List ℤ) → Chooses (map integers bounds) index → LiesIn bounds index
lies_in [] [] h = tt
lies_in [] (i ∷ index) h = absurd h
lies_in (run ∷ bounds) [] h = absurd h
lies_in (run ∷ bounds) (i ∷ index) h =
    (subst (LiesWithin run) h.0.2 (integers_only run h.0.0 i h.0.1), lies_in bounds index h.1)

chosen_in : (bounds : List Run) (index : List ℤ) → LiesIn bounds index → Chooses (map integers bounds) index
chosen_in [] [] h = tt
chosen_in [] (i ∷ index) h = absurd h
chosen_in (run ∷ bounds) [] h = absurd h
chosen_in (run ∷ bounds) (i ∷ index) h = (integers_has run i h.0, chosen_in bounds index h.1)

all_once : (bounds : List Run) → AllOnce (map integers bounds)
all_once [] = tt
all_once (run ∷ bounds) = (integers_once run, all_once bounds)

-- each item of the element order is an index
pub indices_only : (bounds : List Run) (k : ℕ) (d : List ℤ) → k < length (indices bounds) → LiesIn bounds (get_or (indices bounds) k d)
indices_only bounds k d below = lies_in bounds _ (choices_only (map integers bounds) k d (pos 0) below)

-- each index is in it
pub indices_has : (bounds : List Run) (index : List ℤ) → LiesIn bounds index → Contains (indices bounds) index
indices_has bounds index h = choices_has (map integers bounds) index (chosen_in bounds index h)

-- and in one place
pub indices_once : (bounds : List Run) (i j : ℕ) (d : List ℤ) → i < length (indices bounds) → j < length (indices bounds) → get_or (indices bounds) i d ≡ get_or (indices bounds) j d → i ≡ j
indices_once bounds i j d = choices_once (map integers bounds) i j d (pos 0) (all_once bounds)

pub extents : (bounds : List Run) → map length (map integers bounds) ≡ map extent bounds
extents [] = refl
extents (run ∷ bounds) =
    let at : ℕ → ℤ = λ k. run.low +ℤ pos k in
    cc (length-map-range_with_len at 0 (extent run), extents bounds)

-- as many as the extents multiplied
pub length-indices : (bounds : List Run) → length (indices bounds) ≡ size_of bounds
length-indices bounds = length-choices (map integers bounds) ∙ ap product (extents bounds)

-- ---- an index with given subscripts
with_first : (bounds : List Run) (P : ℕ → ℤ → Type 0) (x : ℤ) (index : List ℤ) → P 0 x → ((j : ℕ) → j < length bounds → P (suc j) (get_or index j (pos 0))) → (j : ℕ) → j < suc (length bounds) → P j (get_or (x ∷ index) j (pos 0))
with_first bounds P x index first rest zero below = first
with_first bounds P x index first rest (suc j) below = rest j (omega arith)

-- an index whose subscripts each meet a condition, where in each dimension some number does
pub index_with : (bounds : List Run) (P : ℕ → ℤ → Type 0) → ((j : ℕ) → j < length bounds → (x : ℤ) × LiesWithin (get_or bounds j no_bound) x × P j x) → (index : List ℤ) × LiesIn bounds index × ((j : ℕ) → j < length bounds → P j (get_or index j (pos 0)))
index_with [] P each = ([], tt, λ j below. absurd (omega arith))
index_with (run ∷ bounds) P each =
    let first = each 0 (omega arith) in
    let rest = index_with bounds (λ j. P (suc j)) (λ j below. each (suc j) (omega arith)) in
    (first.0 ∷ rest.0, (first.1, rest.1), with_first bounds P first.0 rest.0 first.2 rest.2)
