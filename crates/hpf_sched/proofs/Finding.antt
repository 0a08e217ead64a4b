-- Items of lists, and their places.
use Rattle.std.proofs.Common.{◌≡◌, ℕ, zero, suc, ◌<◌, Bool, true, false, cond, List, [], ◌∷◌, length, map, filter, get_or, slice_get, Some, Contains, inl, inr, ℤ, pos, ◌<ℤ◌, refl, sym, ap, ◌∙◌, arith}
use Rattle.std.specs.List.{flat_map}
use Rattle.std.specs.Bool.{Decides}
use Rattle.std.specs.Ordering.{int_eq}
use Rattle.std.specs.Cmp.Lexicographic.{pointwise}
use Rattle.std.proofs.lemmas.Bool.{false≢true, cases_Bool, cases_order}
use Rattle.std.proofs.lemmas.Bool.Decides.{Decides-int_eq}
use Rattle.std.proofs.lemmas.Int.{ints}
use Rattle.std.proofs.lemmas.Option.{get_or_from_slice_get, slice_get_within}
use Rattle.std.proofs.lemmas.List.Elements.{Contains-append_cases}
use Rattle.std.proofs.lemmas.Slice.Eq.{slice_eq-Decides}
use Rattle.hpf_num.specs.Runs.{AreMembers, has}
use Rattle.hpf_own.specs.Space.{choices, StandOnce}
use Rattle.hpf_sched.specs.Places.{place_by}

pub same_index_decides : (xs ys : List ℤ) → Decides (pointwise int_eq xs ys) (xs ≡ ys)
same_index_decides xs ys = slice_eq-Decides Decides-int_eq xs ys (pointwise int_eq xs ys) refl

-- ---- items
pub contains_head : {A : Type 0} (x : A) (xs : List A) → Contains (x ∷ xs) x
contains_head x xs = (0, omega arith, refl)

pub contains_behind : {A : Type 0} (y : A) (xs : List A) (x : A) → Contains xs x → Contains (y ∷ xs) x
contains_behind y xs x h = (suc h.0, omega (arith, h.1), h.2)

pub contains_from : {A : Type 0} (xs : List A) (k : ℕ) (x : A) → slice_get xs k ≡ Some x → Contains xs x
contains_from xs k x e = (k, slice_get_within xs k x e, get_or_from_slice_get xs k x x e)

-- ---- whether an integer is a member
pub has_is : (xs : List ℤ) (x : ℤ) → Contains xs x → has xs x ≡ true
has_is [] x h = absurd (omega (arith, h.1))
has_is (y ∷ xs) x (zero, below, is) = rw ((Decides-int_eq y x).1 is) refl
has_is (y ∷ xs) x (suc k, below, is) =
    elim (cases_Bool (int_eq y x)) [ inl here ↦ rw here refl | inr other ↦ rw other (has_is xs x (k, omega arith, is)) ]

pub is_had : (xs : List ℤ) (x : ℤ) → has xs x ≡ true → Contains xs x
is_had [] x h = absurd (false≢true h)
is_had (y ∷ xs) x h =
    elim (cases_Bool (int_eq y x)) [
      | inl here ↦ (0, omega arith, (Decides-int_eq y x).0 here)
      | inr other ↦ contains_behind y xs x (is_had xs x (rw other at h))
    ]

-- ---- places
found_here : {A : Type 0} (same : A → A → Bool) (y : A) (xs : List A) (x : A) (b : Bool) → same y x ≡ b → (b ≡ true → y ≡ x) → (b ≡ false → slice_get xs (place_by same xs x) ≡ Some x) → slice_get (y ∷ xs) (cond b 0 (suc (place_by same xs x))) ≡ Some x
found_here same y xs x true e here there = ap (λ z. Some z) (here refl)
found_here same y xs x false e here there = there refl

-- an item stands at its place
pub found : {A : Type 0} (same : A → A → Bool) → ((a b : A) → Decides (same a b) (a ≡ b)) → (xs : List A) (x : A) → Contains xs x → slice_get xs (place_by same xs x) ≡ Some x
found same decides [] x h = absurd (omega (arith, h.1))
found same decides (y ∷ xs) x (zero, below, is) =
    found_here same y xs x (same y x) refl (decides y x).0 (λ other. absurd (false≢true (sym other ∙ (decides y x).1 is)))
found same decides (y ∷ xs) x (suc k, below, is) =
    found_here same y xs x (same y x) refl (decides y x).0 (λ other. found same decides xs x (k, omega arith, is))

-- where each item stands in one place, that is the one
pub place_is : {A : Type 0} (same : A → A → Bool) → ((a b : A) → Decides (same a b) (a ≡ b)) → (xs : List A) (k : ℕ) (x : A) → StandOnce xs → slice_get xs k ≡ Some x → place_by same xs x ≡ k
place_is same decides xs k x once at =
    let there = found same decides xs x (contains_from xs k x at) in
    once (place_by same xs x) k x (slice_get_within xs (place_by same xs x) x there) (slice_get_within xs k x at)
    (get_or_from_slice_get xs (place_by same xs x) x x there ∙ sym (get_or_from_slice_get xs k x x at))

less_apart : (a b : ℤ) → a <ℤ b → a ≡ b → ⊥
less_apart a b h e = omega (arith, ints)

-- members stand once
pub members_once : (xs : List ℤ) → AreMembers xs → StandOnce xs
members_once xs h = λ i j d below within same.
    elim (cases_order i j) [
      | inl at ↦ at
      | inr other ↦
          elim other [
            | inl less ↦ absurd (less_apart _ _ (h.ascending i j d less within) same)
            | inr more ↦ absurd (less_apart _ _ (h.ascending j i d more below) (sym same))
          ]
    ]

-- ---- choices
contains_flat : {A B : Type 0} (f : A → List B) (xs : List A) (y : B) → Contains (flat_map f xs) y → (x : A) × Contains xs x × Contains (f x) y
contains_flat f [] y h = absurd (omega (arith, h.1))
contains_flat f (x ∷ xs) y h =
    elim (Contains-append_cases (f x) (flat_map f xs) y h) [
      | inl here ↦ (x, contains_head x xs, here)
      | inr there ↦ let t = contains_flat f xs y there in (t.0, contains_behind x xs t.0 t.1, t.2)
    ]

pub contains_mapped : {A B : Type 0} (f : A → B) (xs : List A) (y : B) → Contains (map f xs) y → (x : A) × Contains xs x × (f x ≡ y)
contains_mapped f [] y h = absurd (omega (arith, h.1))
contains_mapped f (x ∷ xs) y (zero, below, is) = (x, contains_head x xs, is)
contains_mapped f (x ∷ xs) y (suc k, below, is) =
    let t = contains_mapped f xs y (k, omega arith, is) in (t.0, contains_behind x xs t.0 t.1, t.2)

-- an index has a member of each list
abbrev pub StandsIn : List (List ℤ) → List ℤ → Type 0
StandsIn [] [] = Unit {0}
StandsIn [] (i ∷ index) = ⊥
StandsIn (side ∷ sides) [] = ⊥
StandsIn (side ∷ sides) (i ∷ index) = Contains side i × StandsIn sides index

with_first : (side : List ℤ) (sides : List (List ℤ)) (i : ℤ) (chosen index : List ℤ) → Contains side i → StandsIn sides chosen → i ∷ chosen ≡ index → StandsIn (side ∷ sides) index
with_first side sides i chosen [] item rest e = absurd (cc)
with_first side sides i chosen (j ∷ index) item rest e =
    let first : i ≡ j = cc in
    let others : chosen ≡ index = cc in
    rw (← first, ← others) (item, rest)

pub chosen_stands : (sides : List (List ℤ)) (index : List ℤ) → Contains (choices sides) index → StandsIn sides index
chosen_stands [] [] h = tt
chosen_stands [] (i ∷ index) (zero, below, is) = absurd (cc)
chosen_stands [] (i ∷ index) (suc k, below, is) = absurd (omega arith)
chosen_stands (side ∷ sides) index h =
    let t = contains_flat (λ (chosen : List ℤ). map (λ (i : ℤ). i ∷ chosen) side) (choices sides) index h in
    let s = contains_mapped (λ (i : ℤ). i ∷ t.0) side index t.2 in
    with_first side sides s.0 t.0 index s.1 (chosen_stands sides t.0 t.1) s.2

pub stands_length : (sides : List (List ℤ)) (index : List ℤ) → StandsIn sides index → length index ≡ length sides
stands_length [] [] h = refl
stands_length [] (i ∷ index) h = absurd h
stands_length (side ∷ sides) [] h = absurd h
stands_length (side ∷ sides) (i ∷ index) h = ap suc (stands_length sides index h.1)

pub stands_at : (sides : List (List ℤ)) (index : List ℤ) (k : ℕ) → StandsIn sides index → k < length sides → Contains (get_or sides k []) (get_or index k (pos 0))
stands_at [] index k h below = absurd (omega arith)
stands_at (side ∷ sides) [] k h below = absurd h
stands_at (side ∷ sides) (i ∷ index) zero h below = h.0
stands_at (side ∷ sides) (i ∷ index) (suc k) h below = stands_at sides index k h.1 (omega arith)

pub stands_from : (sides : List (List ℤ)) (index : List ℤ) → length index ≡ length sides → ((k : ℕ) → k < length sides → Contains (get_or sides k []) (get_or index k (pos 0))) → StandsIn sides index
stands_from [] [] e h = tt
stands_from [] (i ∷ index) e h = absurd (omega arith)
stands_from (side ∷ sides) [] e h = absurd (omega arith)
stands_from (side ∷ sides) (i ∷ index) e h = (h 0 (omega arith), stands_from sides index (omega arith) (λ k below. h (suc k) (omega arith)))

-- ---- filters
agree_here : {A B : Type 0} (f g : A → B) (b c : Bool) (x : A) (xs ys : List A) → b ≡ c → (c ≡ true → f x ≡ g x) → map f xs ≡ map g ys → map f (cond b (x ∷ xs) xs) ≡ map g (cond c (x ∷ ys) ys)
agree_here f g true true x xs ys e h rest = rw (h refl, rest) refl
agree_here f g true false x xs ys e h rest = absurd (false≢true (sym e))
agree_here f g false true x xs ys e h rest = absurd (false≢true e)
agree_here f g false false x xs ys e h rest = rest

pub map_filter_agree : {A B : Type 0} (f g : A → B) (p q : A → Bool) (xs : List A) → ((x : A) → Contains xs x → (p x ≡ q x) × (q x ≡ true → f x ≡ g x)) → map f (filter p xs) ≡ map g (filter q xs)
map_filter_agree f g p q [] h = refl
map_filter_agree f g p q (x ∷ xs) h =
    let here = h x (contains_head x xs) in
    agree_here f g (p x) (q x) x (filter p xs) (filter q xs) here.0 here.1 (map_filter_agree f g p q xs (λ y c. h y (contains_behind x xs y c)))
