-- The places of the elements that a processor holds.
use Rattle.std.proofs.Common.{◌≡◌, ℕ, zero, suc, ◌+◌, ◌-◌, ◌<◌, ◌≤◌, Bool, true, false, cond, List, [], ◌∷◌, ◌++◌, length, map, take, get_or, Contains, Some, None, ℤ, refl, sym, ap, ◌∙◌, arith, subst}
use Rattle.std.specs.List.{All, filter, range_with_len}
use Rattle.std.specs.Int.{IsInRange}
use Rattle.std.specs.Prelude.{slice_get}
use Rattle.std.proofs.lemmas.List.{take_more}
use Rattle.std.proofs.lemmas.List.Elements.{All-filter}
use Rattle.std.proofs.lemmas.List.FromFn.{get_or-range_with_len, length-range_with_len}
use Rattle.hpf_request.proofs.Alike.{map_in_range}

-- an item that is read
pub found : {A : Type 0} (xs : List A) (k : ℕ) (x d : A) → slice_get xs k ≡ Some x → (k < length xs) × (get_or xs k d ≡ x)
found [] k x d e = absurd (let no : None ≡ Some x = e in cc)
found (y ∷ ys) zero x d e = (omega arith, (let is : Some y ≡ Some x = e in cc))
found (y ∷ ys) (suc k) x d e = let f = found ys k x d e in (omega (arith, f.0), f.1)

-- the index at a place, which counts from 1
abbrev pub index_at : List (List ℤ) → ℕ → List ℤ
index_at all place = get_or all (place - 1) []

-- no index stands at two places
abbrev pub StandOnce : List (List ℤ) → Type 0
StandOnce all = (i j : ℕ) (d : List ℤ) → i < length all → j < length all → get_or all i d ≡ get_or all j d → i ≡ j

filter_of_map : {A B : Type 0} (f : B → Bool) (g : A → B) (xs : List A) → map g (filter (λ x. f (g x)) xs) ≡ filter f (map g xs)
filter_of_map f g [] = refl
filter_of_map {A} {B} f g (x ∷ xs) = by (filter_of_map f g xs) (f (g x))
  where
    by : map g (filter (λ y. f (g y)) xs) ≡ filter f (map g xs) → (b : Bool) → map g (cond b (x ∷ filter (λ y. f (g y)) xs) (filter (λ y. f (g y)) xs)) ≡ cond b (g x ∷ filter f (map g xs)) (filter f (map g xs))
    by rest true = ap (λ (ys : List B). g x ∷ ys) rest
    by rest false = rest

-- a list, read place by place
read_all : (all : List (List ℤ)) (a : ℕ) → map (λ k. get_or all (k - a) []) (range_with_len a (length all)) ≡ all
read_all [] a = refl
read_all (x ∷ xs) a =
    let first : get_or (x ∷ xs) (a - a) [] ≡ x = ap (λ (n : ℕ). get_or (x ∷ xs) n []) (let e : a - a ≡ 0 = omega arith in e) in
    let rest = map_in_range (λ k. get_or (x ∷ xs) (k - a) []) (λ k. get_or xs (k - (a + 1)) []) (a + 1) (length xs)
    (λ k least most. let e : k - a ≡ suc (k - (a + 1)) = omega arith in ap (λ (n : ℕ). get_or (x ∷ xs) n []) e) in
    cc (first, rest, read_all xs (a + 1))

-- places of the same indices are the same
one_list : (all : List (List ℤ)) (ps qs : List ℕ) → StandOnce all → All (IsInRange 1 (length all)) ps → All (IsInRange 1 (length all)) qs → map (index_at all) ps ≡ map (index_at all) qs → ps ≡ qs
one_list all [] [] once within inside same = refl
one_list all [] (q ∷ qs) once within inside same = absurd cc
one_list all (p ∷ ps) [] once within inside same = absurd cc
one_list all (p ∷ ps) (q ∷ qs) once within inside same =
    let a = within 0 p (omega arith) in
    let b = inside 0 q (omega arith) in
    let first : index_at all p ≡ index_at all q = cc in
    let others : map (index_at all) ps ≡ map (index_at all) qs = cc in
    let places : p - 1 ≡ q - 1 = once (p - 1) (q - 1) [] (omega (arith, a.0, a.1)) (omega (arith, b.0, b.1)) first in
    let one : p ≡ q = omega (arith, a.0, b.0, places) in
    let rest = one_list all ps qs once (λ k d below. within (suc k) d (omega arith)) (λ k d below. inside (suc k) d (omega arith)) others in
    cc (one, rest)

pub range_in : (u : ℕ) → All (IsInRange 1 u) (range_with_len 1 u)
range_in u k d within =
    let few : k < u = subst (λ (m : ℕ). k < m) (length-range_with_len 1 u) within in
    subst (λ (x : ℕ). IsInRange 1 u x) (sym (get_or-range_with_len 1 u k d few)) (omega arith, omega arith)

-- the places of the indices that pass a test are those places where one passes it
pub placed : (all : List (List ℤ)) (f : List ℤ → Bool) (ps : List ℕ) → StandOnce all → All (IsInRange 1 (length all)) ps → map (index_at all) ps ≡ filter f all
    → ps ≡ filter (λ place. f (index_at all place)) (range_with_len 1 (length all))
placed all f ps once within is =
    let qs = filter (λ place. f (index_at all place)) (range_with_len 1 (length all)) in
    one_list all ps qs once within (All-filter _ (IsInRange 1 (length all)) (range_with_len 1 (length all)) (range_in (length all)))
    (is ∙ (ap (filter f) (sym (read_all all 1)) ∙ sym (filter_of_map f (index_at all) (range_with_len 1 (length all)))))

-- ---- one place more

-- an item of these is one of all
pub read_in : (all owned : List (List ℤ)) (k : ℕ) (x : List ℤ) → slice_get owned k ≡ Some x → ((index : List ℤ) → Contains owned index → Contains all index) → Contains all x
read_in all owned k x e among = let f = found owned k x x e in among x (k, f.0, f.1)

map_push : {A B : Type 0} (f : A → B) (xs : List A) (x : A) → map f (xs ++ x ∷ []) ≡ map f xs ++ f x ∷ []
map_push f [] x = refl
map_push f (y ∷ ys) x = ap (λ zs. f y ∷ zs) (map_push f ys x)

pub within_push : (u : ℕ) (ps : List ℕ) (p : ℕ) → All (IsInRange 1 u) ps → 1 ≤ p → p ≤ u → All (IsInRange 1 u) (ps ++ p ∷ [])
within_push u [] p all least most zero d below = (least, most)
within_push u [] p all least most (suc k) d below = absurd (omega arith)
within_push u (q ∷ ps) p all least most zero d below = all zero d (omega arith)
within_push u (q ∷ ps) p all least most (suc k) d below = within_push u ps p (λ j e few. all (suc j) e (omega arith)) least most k d (omega arith)

pub places_push : (all owned : List (List ℤ)) (ps : List ℕ) (k : ℕ) (x : List ℤ) (place : ℕ) → map (index_at all) ps ≡ take k owned → slice_get owned k ≡ Some x → index_at all place ≡ x
    → map (index_at all) (ps ++ place ∷ []) ≡ take (k + 1) owned
places_push all owned ps k x place so_far read is =
    let f = found owned k x x read in
    map_push (index_at all) ps place
    ∙ (ap (λ (front : List (List ℤ)). front ++ index_at all place ∷ []) so_far
    ∙ (ap (λ (y : List ℤ). take k owned ++ y ∷ []) (is ∙ sym f.1) ∙ sym (take_more owned k x f.0)))
