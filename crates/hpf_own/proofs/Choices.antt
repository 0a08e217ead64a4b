-- Lists made by choosing one item of each list.
use Rattle.std.proofs.Common.{◌≡◌, ℕ, zero, suc, ◌+◌, ◌*◌, ◌<◌, Bool, true, false, ◌&&◌, ◌||◌, List, [], ◌∷◌, length, map, get_or, arith, mul_comm, length-append, ap, ◌∙◌, refl}
use Rattle.std.specs.List.{list_any, flat_map}
use Rattle.std.proofs.lemmas.List.{get_or_append_left, get_or-append-add, length-map, get_or-map}
use Rattle.std.proofs.lemmas.List.Folds.{list_any-append}
use Rattle.hpf_own.specs.Space.{choices, product}

-- ---- tests over lists
pub list_any-same : {A : Type 0} (p q : A → Bool) → ((x : A) → p x ≡ q x) → (xs : List A) → list_any p xs ≡ list_any q xs
list_any-same p q h [] = refl
list_any-same p q h (x ∷ xs) = rw (h x, list_any-same p q h xs) refl

pub list_any-map : {A B : Type 0} (p : B → Bool) (f : A → B) (xs : List A) → list_any p (map f xs) ≡ list_any (λ x. p (f x)) xs
list_any-map p f [] = refl
list_any-map p f (x ∷ xs) = ap (λ (b : Bool). p (f x) || b) (list_any-map p f xs)

pub list_any-flat_map : {A B : Type 0} (p : B → Bool) (f : A → List B) (xs : List A) → list_any p (flat_map f xs) ≡ list_any (λ x. list_any p (f x)) xs
list_any-flat_map p f [] = refl
list_any-flat_map p f (x ∷ xs) =
    list_any-append p (f x) (flat_map f xs) ∙ ap (λ (b : Bool). list_any p (f x) || b) (list_any-flat_map p f xs)

or_of_ands : (a b c : Bool) → ((a && c) || (b && c)) ≡ ((a || b) && c)
or_of_ands true true true = refl
or_of_ands true true false = refl
or_of_ands true false true = refl
or_of_ands true false false = refl
or_of_ands false true true = refl
or_of_ands false true false = refl
or_of_ands false false true = refl
or_of_ands false false false = refl

pub list_any-and : {A : Type 0} (p : A → Bool) (c : Bool) (xs : List A) → list_any (λ x. p x && c) xs ≡ (list_any p xs && c)
list_any-and p c [] = refl
list_any-and p c (x ∷ xs) = ap (λ (b : Bool). (p x && c) || b) (list_any-and p c xs) ∙ or_of_ands (p x) (list_any p xs) c

and_of_ors : (a b c : Bool) → ((c && a) || (c && b)) ≡ (c && (a || b))
and_of_ors a b true = refl
and_of_ors a b false = refl

no_or : (c : Bool) → false ≡ (c && false)
no_or true = refl
no_or false = refl

pub list_any-and_left : {A : Type 0} (p : A → Bool) (c : Bool) (xs : List A) → list_any (λ x. c && p x) xs ≡ (c && list_any p xs)
list_any-and_left p c [] = no_or c
list_any-and_left p c (x ∷ xs) = ap (λ (b : Bool). (c && p x) || b) (list_any-and_left p c xs) ∙ and_of_ors (p x) (list_any p xs) c

-- ---- places
length-flat_map-even : {A B : Type 0} (f : A → List B) (n : ℕ) → ((x : A) → length (f x) ≡ n) → (xs : List A) → length (flat_map f xs) ≡ length xs * n
length-flat_map-even f n h [] = omega arith
length-flat_map-even f n h (x ∷ xs) =
    omega (arith, length-append (f x) (flat_map f xs), h x, length-flat_map-even f n h xs)

-- so many items of each list, and so many lists
pub length-choices : {A : Type 0} (lists : List (List A)) → length (choices lists) ≡ product (map length lists)
length-choices {A} [] = refl
length-choices {A} (items ∷ rest) =
    let put : List A → List (List A) = λ chosen. map (λ item. item ∷ chosen) items in
    omega (arith, length-flat_map-even put (length items) (λ (chosen : List A). length-map items (λ (item : A). item ∷ chosen)) (choices rest), length-choices rest, mul_comm (length (choices rest)) (length items), ap (λ (n : ℕ). length items * n) (length-choices rest))

zero_times : (n j : ℕ) → zero * n + j ≡ j
zero_times n j = omega arith

more_times : (n i j l : ℕ) → l ≡ n → suc i * n + j ≡ l + (i * n + j)
more_times n i j l e = omega arith

get_or-flat_map-even : {A B : Type 0} (f : A → List B) (n : ℕ) → ((x : A) → length (f x) ≡ n) → (xs : List A) (i j : ℕ) (e : A) (d : B) → i < length xs → j < n → get_or (flat_map f xs) (i * n + j) d ≡ get_or (f (get_or xs i e)) j d
get_or-flat_map-even f n h [] i j e d within inside = absurd (omega arith)
get_or-flat_map-even f n h (x ∷ xs) zero j e d within inside =
    rw (zero_times n j) (get_or_append_left (f x) (flat_map f xs) d j (omega (arith, h x)))
get_or-flat_map-even {A} {B} f n h (x ∷ xs) (suc i) j e d within inside =
    rw (more_times n i j (length (f x)) (h x)) (get_or-append-add (f x) (flat_map f xs) (i * n + j) d ∙ get_or-flat_map-even f n h xs i j e d (omega arith) inside)

-- the choice at a place has the item at the place's remainder, and then the choice of the rest at its quotient
pub get_or-choices : {A : Type 0} (items : List A) (rest : List (List A)) (i j : ℕ) (e : List A) (d : A) → i < length (choices rest) → j < length items → get_or (choices (items ∷ rest)) (i * length items + j) e ≡ get_or items j d ∷ get_or (choices rest) i e
get_or-choices {A} items rest i j e d within inside =
    let put : List A → List (List A) = λ chosen. map (λ item. item ∷ chosen) items in
    get_or-flat_map-even put (length items) (λ (chosen : List A). length-map items (λ (item : A). item ∷ chosen)) (choices rest) i j e e within inside
    ∙ get_or-map (λ (item : A). item ∷ get_or (choices rest) i e) items j d e inside
