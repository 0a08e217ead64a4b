-- The one item of a list that passes a test.
use Rattle.std.proofs.Common.{◌≡◌, ℕ, zero, suc, ◌<◌, ◌≤◌, Bool, true, false, List, [], ◌∷◌, length, get_or, Some, None, arith, sym, ◌∙◌, refl}
use Rattle.std.specs.List.{filter, find, list_all}
use Rattle.std.proofs.lemmas.Bool.{and_from, and_parts}

-- two tests that follow from each other are one
pub same_test : (a b : Bool) → (a ≡ true → b ≡ true) → (b ≡ true → a ≡ true) → a ≡ b
same_test true b h k = sym (h refl)
same_test false true h k = k refl
same_test false false h k = refl

filter_some_behind : {A : Type 0} (p : A → Bool) (x : A) (xs : List A) (b : Bool) → p x ≡ b → 1 ≤ length (filter p xs) → 1 ≤ length (filter p (x ∷ xs))
filter_some_behind p x xs true e h = rw e (omega arith)
filter_some_behind p x xs false e h = rw e h

-- an item that passes makes the filter longer than nothing
pub filter_some : {A : Type 0} (p : A → Bool) (xs : List A) (k : ℕ) (d : A) → k < length xs → p (get_or xs k d) ≡ true → 1 ≤ length (filter p xs)
filter_some p [] k d below h = absurd (omega arith)
filter_some p (x ∷ xs) zero d below h = rw h (omega arith)
filter_some p (x ∷ xs) (suc k) d below h = filter_some_behind p x xs (p x) refl (filter_some p xs k d (omega arith) h)

find_only_behind : {A : Type 0} (p : A → Bool) (x y : A) (xs : List A) (b : Bool) → p x ≡ b → length (filter p (x ∷ xs)) ≤ 1 → 1 ≤ length (filter p xs) → (length (filter p xs) ≤ 1 → find p xs ≡ Some y) → find p (x ∷ xs) ≡ Some y
find_only_behind {A} p x y xs true e one some h =
    let two : length (filter p (x ∷ xs)) ≡ suc (length (filter p xs)) = rw e refl in
    absurd (omega arith)
find_only_behind {A} p x y xs false e one some h =
    let same : length (filter p (x ∷ xs)) ≡ length (filter p xs) = rw e refl in
    rw e (h (omega arith))

-- where one item at most passes, and this one does, it is found
pub find_only : {A : Type 0} (p : A → Bool) (xs : List A) (k : ℕ) (d : A) → length (filter p xs) ≤ 1 → k < length xs → p (get_or xs k d) ≡ true → find p xs ≡ Some (get_or xs k d)
find_only p [] k d one below h = absurd (omega arith)
find_only p (x ∷ xs) zero d one below h = rw h refl
find_only p (x ∷ xs) (suc k) d one below h =
    find_only_behind p x (get_or xs k d) xs (p x) refl one (filter_some p xs k d (omega arith) h) (λ less. find_only p xs k d less (omega arith) h)

-- where an item passes, one is found that does
pub record IsFound {A : Type 0} (p : A → Bool) (xs : List A) (d : A) : Type 0 where
  pub place : ℕ
  pub below : place < length xs
  pub passes : p (get_or xs place d) ≡ true
  pub is : find p xs ≡ Some (get_or xs place d)

find_past : {A : Type 0} (p : A → Bool) (x : A) (xs : List A) → p x ≡ false → find p (x ∷ xs) ≡ find p xs
find_past p x xs e = rw e refl

found_behind : {A : Type 0} (p : A → Bool) (x d : A) (xs : List A) (b : Bool) → p x ≡ b → 1 ≤ length (filter p (x ∷ xs)) → (1 ≤ length (filter p xs) → IsFound p xs d) → IsFound p (x ∷ xs) d
found_behind {A} p x d xs true e some h = record { place = 0; below = omega arith; passes = e; is = rw e refl }
found_behind {A} p x d xs false e some h =
    let same : length (filter p (x ∷ xs)) ≡ length (filter p xs) = rw e refl in
    let f = h (omega arith) in
    let below : f.place < length xs = f.below in
    record { place = suc f.place; below = omega arith; passes = f.passes; is = find_past p x xs e ∙ f.is }

pub found : {A : Type 0} (p : A → Bool) (xs : List A) (d : A) → 1 ≤ length (filter p xs) → IsFound p xs d
found p [] d some = absurd (omega arith)
found p (x ∷ xs) d some = found_behind p x d xs (p x) refl some (found p xs d)

-- nothing passes that isn't found
pub found_none : {A : Type 0} (p : A → Bool) (xs : List A) (k : ℕ) (d : A) → find p xs ≡ None → k < length xs → p (get_or xs k d) ≡ true → ⊥
found_none p xs k d none below h =
    let f = found p xs d (filter_some p xs k d below h) in
    absurd (let e : None ≡ Some (get_or xs f.place d) = sym none ∙ f.is in cc)

-- none is found where none passes
pub find_none : {A : Type 0} (p : A → Bool) (xs : List A) (d : A) → ((k : ℕ) → k < length xs → p (get_or xs k d) ≡ false) → find p xs ≡ None
find_none p [] d h = refl
find_none p (x ∷ xs) d h = find_past p x xs (h 0 (omega arith)) ∙ find_none p xs d (λ k below. h (suc k) (omega arith))

-- the first one that passes is found
pub find_first : {A : Type 0} (p : A → Bool) (xs : List A) (k : ℕ) (d : A) → k < length xs → ((j : ℕ) → j < k → p (get_or xs j d) ≡ false) → p (get_or xs k d) ≡ true → find p xs ≡ Some (get_or xs k d)
find_first p [] k d below before h = absurd (omega arith)
find_first p (x ∷ xs) zero d below before h = rw h refl
find_first p (x ∷ xs) (suc k) d below before h =
    find_past p x xs (before 0 (omega arith)) ∙ find_first p xs k d (omega arith) (λ j less. before (suc j) (omega arith)) h

-- ---- a test of all items, item by item
pub all_from : {A : Type 0} (p : A → Bool) (xs : List A) (d : A) → ((k : ℕ) → k < length xs → p (get_or xs k d) ≡ true) → list_all p xs ≡ true
all_from p [] d h = refl
all_from p (x ∷ xs) d h = and_from (p x) _ (h 0 (omega arith)) (all_from p xs d (λ k below. h (suc k) (omega arith)))

pub all_at : {A : Type 0} (p : A → Bool) (xs : List A) (k : ℕ) (d : A) → list_all p xs ≡ true → k < length xs → p (get_or xs k d) ≡ true
all_at p [] k d h below = absurd (omega arith)
all_at p (x ∷ xs) zero d h below = (and_parts (p x) _ h).0
all_at p (x ∷ xs) (suc k) d h below = all_at p xs k d (and_parts (p x) _ h).1 (omega arith)
