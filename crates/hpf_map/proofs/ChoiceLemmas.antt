-- Choices of one item of each list, item by item.
use Rattle.std.proofs.Common.{◌≡◌, ℕ, zero, suc, ◌<◌, List, [], ◌∷◌, length, map, get_or, ◌⊎◌, inl, inr, arith, sym, ap, subst, refl}
use Rattle.std.proofs.Math.ListN.{set}
use Rattle.std.specs.Prelude.{Contains}
use Rattle.std.specs.List.{flat_map}
use Rattle.std.proofs.lemmas.List.Elements.{Contains-append_left, Contains-append_right, Contains-append_cases}
use Rattle.hpf_own.specs.Space.{choices}

-- ---- what a list contains

pub contains_here : {A : Type 0} (x : A) (xs : List A) → Contains (x ∷ xs) x
contains_here x xs = (0, omega arith, refl)

pub contains_later : {A : Type 0} (x : A) (xs : List A) (y : A) → Contains xs y → Contains (x ∷ xs) y
contains_later x xs y h = let below = h.1 in (suc h.0, omega arith, h.2)

contains_at : {A : Type 0} (x : A) (xs : List A) (y : A) (k : ℕ) → k < length (x ∷ xs) → get_or (x ∷ xs) k y ≡ y → (x ≡ y) ⊎ Contains xs y
contains_at x xs y zero below is = inl is
contains_at x xs y (suc k) below is = inr (k, omega arith, is)

pub contains_cases : {A : Type 0} (x : A) (xs : List A) (y : A) → Contains (x ∷ xs) y → (x ≡ y) ⊎ Contains xs y
contains_cases x xs y h = contains_at x xs y h.0 h.1 h.2

pub contains_none : {A : Type 0} (y : A) → Contains [] y → ⊥
contains_none y h = let below = h.1 in absurd (omega arith)

-- a list of one item
pub contains_only : {A : Type 0} (x y : A) → Contains (x ∷ []) y → x ≡ y
contains_only x y h = elim (contains_cases x [] y h) [
  | inl is ↦ is
  | inr none ↦ absurd (contains_none y none)
]

pub contains_map : {A B : Type 0} (f : A → B) (xs : List A) (x : A) → Contains xs x → Contains (map f xs) (f x)
contains_map f [] x h = absurd (contains_none x h)
contains_map f (y ∷ xs) x h = elim (contains_cases y xs x h) [
  | inl is ↦ subst (λ z. Contains (f y ∷ map f xs) (f z)) is (contains_here (f y) (map f xs))
  | inr later ↦ contains_later (f y) (map f xs) (f x) (contains_map f xs x later)
]

pub contains_from_map : {A B : Type 0} (f : A → B) (xs : List A) (y : B) → Contains (map f xs) y → (x : A) × Contains xs x × (f x ≡ y)
contains_from_map f [] y h = absurd (contains_none y h)
contains_from_map f (x ∷ xs) y h = elim (contains_cases (f x) (map f xs) y h) [
  | inl is ↦ (x, contains_here x xs, is)
  | inr later ↦ let r = contains_from_map f xs y later in (r.0, contains_later x xs r.0 r.1, r.2)
]

pub contains_flat_map : {A B : Type 0} (f : A → List B) (xs : List A) (x : A) (y : B) → Contains xs x → Contains (f x) y → Contains (flat_map f xs) y
contains_flat_map f [] x y h k = absurd (contains_none x h)
contains_flat_map f (z ∷ xs) x y h k = elim (contains_cases z xs x h) [
  | inl is ↦ Contains-append_left (f z) (flat_map f xs) y (subst (λ w. Contains (f w) y) (sym is) k)
  | inr later ↦ Contains-append_right (f z) (flat_map f xs) y (contains_flat_map f xs x y later k)
]

pub contains_from_flat_map : {A B : Type 0} (f : A → List B) (xs : List A) (y : B) → Contains (flat_map f xs) y → (x : A) × Contains xs x × Contains (f x) y
contains_from_flat_map f [] y h = absurd (contains_none y h)
contains_from_flat_map f (x ∷ xs) y h = elim (Contains-append_cases (f x) (flat_map f xs) y h) [
  | inl here ↦ (x, contains_here x xs, here)
  | inr later ↦ let r = contains_from_flat_map f xs y later in (r.0, contains_later x xs r.0 r.1, r.2)
]

-- ---- choices

-- one item of each list
abbrev pub IsChoice : {A : Type 0} → List (List A) → List A → Type 0
IsChoice [] [] = Unit {0}
IsChoice [] (x ∷ chosen) = ⊥
IsChoice (items ∷ rest) [] = ⊥
IsChoice (items ∷ rest) (x ∷ chosen) = Contains items x × IsChoice rest chosen

pub choice_in : {A : Type 0} (lists : List (List A)) (chosen : List A) → IsChoice lists chosen → Contains (choices lists) chosen
choice_in [] [] h = contains_here [] []
choice_in [] (x ∷ chosen) h = absurd h
choice_in (items ∷ rest) [] h = absurd h
choice_in {A} (items ∷ rest) (x ∷ chosen) h =
    let put : List A → List (List A) = λ others. map (λ item. item ∷ others) items in
    contains_flat_map put (choices rest) chosen (x ∷ chosen) (choice_in rest chosen h.1) (contains_map (λ item. item ∷ chosen) items x h.0)

pub choice_from : {A : Type 0} (lists : List (List A)) (chosen : List A) → Contains (choices lists) chosen → IsChoice lists chosen
choice_from [] chosen h = subst (λ c. IsChoice [] c) (contains_only [] chosen h) tt
choice_from {A} (items ∷ rest) chosen h =
    let put : List A → List (List A) = λ others. map (λ item. item ∷ others) items in
    let others = contains_from_flat_map put (choices rest) chosen h in
    let first = contains_from_map (λ item. item ∷ others.0) items chosen others.2 in
    subst (λ c. IsChoice (items ∷ rest) c) first.2 (first.1, choice_from rest others.0 others.1)

pub choice_length : {A : Type 0} (lists : List (List A)) (chosen : List A) → IsChoice lists chosen → length chosen ≡ length lists
choice_length [] [] h = refl
choice_length [] (x ∷ chosen) h = absurd h
choice_length (items ∷ rest) [] h = absurd h
choice_length (items ∷ rest) (x ∷ chosen) h = ap suc (choice_length rest chosen h.1)

pub choice_at : {A : Type 0} (lists : List (List A)) (chosen : List A) (k : ℕ) (d : A) → IsChoice lists chosen → k < length lists → Contains (get_or lists k []) (get_or chosen k d)
choice_at [] chosen k d h below = absurd (omega arith)
choice_at (items ∷ rest) [] k d h below = absurd h
choice_at (items ∷ rest) (x ∷ chosen) zero d h below = h.0
choice_at (items ∷ rest) (x ∷ chosen) (suc k) d h below = choice_at rest chosen k d h.1 (omega arith)

-- another item of one list
pub choice_set : {A : Type 0} (lists : List (List A)) (chosen : List A) (k : ℕ) (x : A) → IsChoice lists chosen → k < length lists → Contains (get_or lists k []) x → IsChoice lists (set chosen k x)
choice_set [] chosen k x h below has = absurd (omega arith)
choice_set (items ∷ rest) [] k x h below has = absurd h
choice_set (items ∷ rest) (y ∷ chosen) zero x h below has = (has, h.1)
choice_set (items ∷ rest) (y ∷ chosen) (suc k) x h below has = (h.0, choice_set rest chosen k x h.1 (omega arith) has)

-- some choice, where no list is empty
pub some_choice : {A : Type 0} (lists : List (List A)) (d : A) → ((k : ℕ) → k < length lists → 0 < length (get_or lists k [])) → (chosen : List A) × IsChoice lists chosen
some_choice [] d h = ([], tt)
some_choice ([] ∷ rest) d h = let none = h 0 (omega arith) in absurd (omega arith)
some_choice ((x ∷ items) ∷ rest) d h =
    let r = some_choice rest d (λ k below. h (suc k) (omega arith)) in
    (x ∷ r.0, (contains_here x items, r.1))
