-- Filters of a box of indices, dimension by dimension.
use Rattle.std.proofs.Common.{◌≡◌, ℕ, zero, suc, ◌+◌, ◌<◌, Bool, true, false, ◌&&◌, cond, List, [], ◌∷◌, ◌++◌, length, map, filter, get_or, take, inl, inr, ◌||◌, ◌≤◌, All, refl, ap, ◌∙◌, arith}
use Rattle.std.specs.List.{flat_map, list_any}
use Rattle.std.proofs.lemmas.Bool.{and_from, and_parts, cases_Bool}
use Rattle.std.proofs.lemmas.List.Elements.{filter-append, All-head, All-tail}
use Rattle.hpf_own.specs.Space.{choices}

-- ---- filters
pub filter_agree_all : {A : Type 0} (p q : A → Bool) (xs : List A) → All (λ x. p x ≡ q x) xs → filter p xs ≡ filter q xs
filter_agree_all p q [] h = refl
filter_agree_all {A} p q (x ∷ xs) h =
    let here = All-head (λ (x : A). p x ≡ q x) x xs h in
    rw (here, filter_agree_all p q xs (All-tail (λ (x : A). p x ≡ q x) x xs h)) refl

pub filter-all : {A : Type 0} (xs : List A) → filter (λ _. true) xs ≡ xs
filter-all [] = refl
filter-all {A} (x ∷ xs) = ap (λ (ys : List A). x ∷ ys) (filter-all xs)

filter_both_here : {A : Type 0} (b c : Bool) (x : A) (ys : List A) (q : A → Bool) → q x ≡ c → cond (b && c) (x ∷ filter q ys) (filter q ys) ≡ filter q (cond b (x ∷ ys) ys)
filter_both_here true true x ys q e = rw e refl
filter_both_here true false x ys q e = rw e refl
filter_both_here false true x ys q e = refl
filter_both_here false false x ys q e = refl

-- one test after another
pub filter_both : {A : Type 0} (p q : A → Bool) (xs : List A) → filter (λ x. p x && q x) xs ≡ filter q (filter p xs)
filter_both p q [] = refl
filter_both {A} p q (x ∷ xs) =
    ap (λ (ys : List A). cond (p x && q x) (x ∷ ys) ys) (filter_both p q xs) ∙ filter_both_here (p x) (q x) x (filter p xs) q refl

map_cond : {A B : Type 0} (f : A → B) (b : Bool) (x : A) (ys : List A) → cond b (f x ∷ map f ys) (map f ys) ≡ map f (cond b (x ∷ ys) ys)
map_cond f true x ys = refl
map_cond f false x ys = refl

filter-map : {A B : Type 0} (p : B → Bool) (f : A → B) (xs : List A) → filter p (map f xs) ≡ map f (filter (λ x. p (f x)) xs)
filter-map p f [] = refl
filter-map {A} {B} p f (x ∷ xs) = ap (λ (ys : List B). cond (p (f x)) (f x ∷ ys) ys) (filter-map p f xs) ∙ map_cond f (p (f x)) x (filter (λ x. p (f x)) xs)

filter-flat_map : {A B : Type 0} (p : B → Bool) (f : A → List B) (xs : List A) → filter p (flat_map f xs) ≡ flat_map (λ x. filter p (f x)) xs
filter-flat_map p f [] = refl
filter-flat_map {A} {B} p f (x ∷ xs) = filter-append p (f x) (flat_map f xs) ∙ ap (λ (ys : List B). filter p (f x) ++ ys) (filter-flat_map p f xs)

-- ---- boxes
-- whether each item passes the test of its place
abbrev pub pass : {A : Type 0} → (ℕ → A → Bool) → List A → Bool
pass f [] = true
pass f (x ∷ xs) = f 0 x && pass (λ d. f (suc d)) xs

-- the items of each list that pass the test of its place
abbrev pub passing : {A : Type 0} → (ℕ → A → Bool) → List (List A) → List (List A)
passing f [] = []
passing f (items ∷ rest) = filter (f 0) items ∷ passing (λ d. f (suc d)) rest

const_here : {A : Type 0} (b c : Bool) (x : A) (ys : List A) → cond (b && c) (x ∷ cond c ys []) (cond c ys []) ≡ cond c (cond b (x ∷ ys) ys) []
const_here true true x ys = refl
const_here true false x ys = refl
const_here false true x ys = refl
const_here false false x ys = refl

-- a test that doesn't depend on the item
filter_const : {A : Type 0} (p : A → Bool) (c : Bool) (xs : List A) → filter (λ x. p x && c) xs ≡ cond c (filter p xs) []
filter_const p true [] = refl
filter_const p false [] = refl
filter_const {A} p c (x ∷ xs) = ap (λ (ys : List A). cond (p x && c) (x ∷ ys) ys) (filter_const p c xs) ∙ const_here (p x) c x (filter p xs)

flat_map-same : {A B : Type 0} (f g : A → List B) → ((x : A) → f x ≡ g x) → (xs : List A) → flat_map f xs ≡ flat_map g xs
flat_map-same f g h [] = refl
flat_map-same f g h (x ∷ xs) = rw (h x, flat_map-same f g h xs) refl

cond_append : {A B : Type 0} (b : Bool) (x : A) (g : A → List B) (xs : List A) (ys : List B) → ys ≡ flat_map g xs → cond b (g x) [] ++ ys ≡ flat_map g (cond b (x ∷ xs) xs)
cond_append true x g xs ys e = rw e refl
cond_append false x g xs ys e = e

flat_map-cond : {A B : Type 0} (p : A → Bool) (g : A → List B) (xs : List A) → flat_map (λ x. cond (p x) (g x) []) xs ≡ flat_map g (filter p xs)
flat_map-cond p g [] = refl
flat_map-cond {A} {B} p g (x ∷ xs) = cond_append (p x) x g (filter p xs) (flat_map (λ x. cond (p x) (g x) []) xs) (flat_map-cond p g xs)

map-cond : {A B : Type 0} (f : A → B) (c : Bool) (xs : List A) → map f (cond c xs []) ≡ cond c (map f xs) []
map-cond f true xs = refl
map-cond f false xs = refl

-- what passes of a box is a box of what passes
pub filter-choices : {A : Type 0} (f : ℕ → A → Bool) (lists : List (List A)) → filter (pass f) (choices lists) ≡ choices (passing f lists)
filter-choices f [] = refl
filter-choices {A} f (items ∷ rest) =
    let put : List A → List (List A) = λ chosen. map (λ item. item ∷ chosen) items in
    let kept : List A → List (List A) = λ chosen. map (λ item. item ∷ chosen) (filter (f 0) items) in
    let P : List A → Bool = pass (λ d. f (suc d)) in
    filter-flat_map (pass f) put (choices rest)
    ∙ flat_map-same (λ chosen. filter (pass f) (put chosen)) (λ chosen. cond (P chosen) (kept chosen) [])
    (λ chosen. filter-map (pass f) (λ item. item ∷ chosen) items ∙ ap (map (λ item. item ∷ chosen)) (filter_const (f 0) (P chosen) items) ∙ map-cond (λ item. item ∷ chosen) (P chosen) (filter (f 0) items)) (choices rest)
    ∙ flat_map-cond P kept (choices rest)
    ∙ ap (flat_map kept) (filter-choices (λ d. f (suc d)) rest)

pub pass_from : {A : Type 0} (f : ℕ → A → Bool) (xs : List A) (e : A) → ((d : ℕ) → d < length xs → f d (get_or xs d e) ≡ true) → pass f xs ≡ true
pass_from f [] e h = refl
pass_from f (x ∷ xs) e h = and_from (f 0 x) _ (h 0 (omega arith)) (pass_from (λ d. f (suc d)) xs e (λ d below. h (suc d) (omega arith)))

pub pass_at : {A : Type 0} (f : ℕ → A → Bool) (xs : List A) (d : ℕ) (e : A) → pass f xs ≡ true → d < length xs → f d (get_or xs d e) ≡ true
pass_at f [] d e h below = absurd (omega arith)
pass_at f (x ∷ xs) zero e h below = (and_parts (f 0 x) _ h).0
pass_at f (x ∷ xs) (suc d) e h below = pass_at (λ d. f (suc d)) xs d e (and_parts (f 0 x) _ h).1 (omega arith)

-- one list more
pub passing_more : {A : Type 0} (f : ℕ → A → Bool) (lists : List (List A)) (d : ℕ) → d < length lists → passing f (take (d + 1) lists) ≡ passing f (take d lists) ++ filter (f d) (get_or lists d []) ∷ []
passing_more f [] d below = absurd (omega arith)
passing_more f (items ∷ rest) zero below = refl
passing_more {A} f (items ∷ rest) (suc d) below =
    let more : suc d + 1 ≡ suc (d + 1) = omega arith in
    rw more (ap (λ (ls : List (List A)). filter (f 0) items ∷ ls) (passing_more (λ d. f (suc d)) rest d (omega arith)))

pub length-passing : {A : Type 0} (f : ℕ → A → Bool) (lists : List (List A)) → length (passing f lists) ≡ length lists
length-passing f [] = refl
length-passing f (items ∷ rest) = ap suc (length-passing (λ d. f (suc d)) rest)

-- no more of a filter than of its list
pub filter_fewer : {A : Type 0} (p : A → Bool) (xs : List A) → length (filter p xs) ≤ length xs
filter_fewer p [] = omega arith
filter_fewer {A} p (x ∷ xs) =
    let l = filter_fewer p xs in
    elim (cases_Bool (p x)) [ inl passes ↦ rw passes (omega arith) | inr fails ↦ rw fails (omega arith) ]

any_here : {A : Type 0} (b : Bool) (x : A) (q : A → Bool) (ys : List A) → ((b && q x) || list_any q ys) ≡ list_any q (cond b (x ∷ ys) ys)
any_here true x q ys = refl
any_here false x q ys = refl

pub any_filter : {A : Type 0} (p q : A → Bool) (xs : List A) → list_any (λ x. p x && q x) xs ≡ list_any q (filter p xs)
any_filter p q [] = refl
any_filter {A} p q (x ∷ xs) = ap (λ (b : Bool). (p x && q x) || b) (any_filter p q xs) ∙ any_here (p x) x q (filter p xs)
