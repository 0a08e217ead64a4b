-- The place of the first element that passes a test, and the element there.
use Rattle.std.proofs.Common.{◌≡◌, ℕ, ◌+◌, ◌-◌, ◌<◌, ◌≤◌, Bool, true, false, cond, List, [], ◌∷◌, ◌++◌, length, get_or, Option, Some, None, suc, refl, sym, ap, subst, ◌∙◌, arith}
use Rattle.std.specs.Prelude.{is_some, option_copied, nat_eq}
use Rattle.std.specs.Borrow.{Bor}
use Rattle.std.specs.Option.{option_or}
use Rattle.std.proofs.lemmas.Grind.{common_steps}
use Rattle.std.proofs.lemmas.List.Folds.{find-append}
use Rattle.std.specs.BTreeMap.{BTreeMap, get, Updates, IsUnchanged}
use Rattle.std.specs.List.{find, position_from}
use Rattle.std.specs.Ordering.{nat_cmp, is_eq}
use Rattle.std.specs.Cmp.{eq_by_cmp_equiv, Equal-is}
use Rattle.std.specs.Cmp.Lexicographic.{slice_cmp, nat_list_cmp_total, texts_ties}
use lib.Pointwise.{pointwise}
use Rattle.std.specs.Map.{lookup}
use Rattle.std.specs.FinSet.{slice_cmp-IsAntisymmetric, nat_cmp-IsAntisymmetric}
use Rattle.hpf_map.specs.declared.name.Name.{Name}
use Rattle.hpf_map.specs.Known.{is_named, known, declare}
use Rattle.hpf_map.specs.Index.{HasPlaces}

-- an element that is found at a place, counted from k, is the first that passes
pub record IsFirstAt {A : Type 0} (p : A → Bool) (k : ℕ) (xs : List A) (i : ℕ) : Type 0 where
  pub from : k ≤ i
  pub below : i < k + length xs
  pub first : (d : A) → find p xs ≡ Some (get_or xs (i - k) d)

get_here : {A : Type 0} (k i : ℕ) (x : A) (xs : List A) (d : A) → k ≡ i → Some x ≡ Some (get_or (x ∷ xs) (i - k) d)
get_here k i x xs d e = let z : i - k ≡ 0 = omega (arith, e) in rw z refl

get_there : {A : Type 0} (k i : ℕ) (x : A) (xs : List A) (d : A) → k + 1 ≤ i → Some (get_or xs (i - (k + 1)) d) ≡ Some (get_or (x ∷ xs) (i - k) d)
get_there k i x xs d h = grind (arith, common_steps)

first_in_front : {A : Type 0} (p : A → Bool) (k : ℕ) (x : A) (xs : List A) (i : ℕ) (b : Bool) → p x ≡ b
    → (position_from p (k + 1) xs ≡ Some i → IsFirstAt p (k + 1) xs i)
    → cond b (Some k) (position_from p (k + 1) xs) ≡ Some i → IsFirstAt p k (x ∷ xs) i
first_in_front p k x xs i true t later e =
    let same : k ≡ i = cc in
    record { from = omega (arith, same); below = omega (arith, same); first = λ d. rw t (get_here k i x xs d same) }
first_in_front p k x xs i false t later e =
    let l : IsFirstAt p (k + 1) xs i = later e in
    record { from = omega (arith, l.from); below = omega (arith, l.below); first = λ d. rw t (l.first d ∙ get_there k i x xs d l.from) }

pub first_at : {A : Type 0} (p : A → Bool) (k : ℕ) (xs : List A) (i : ℕ) → position_from p k xs ≡ Some i → IsFirstAt p k xs i
first_at p k [] i e = absurd cc
first_at p k (x ∷ xs) i e = first_in_front p k x xs i (p x) refl (first_at p (k + 1) xs i) e

none_in_front : {A : Type 0} (p : A → Bool) (k : ℕ) (x : A) (xs : List A) (b : Bool)
    → (position_from p (k + 1) xs ≡ None → find p xs ≡ None)
    → cond b (Some k) (position_from p (k + 1) xs) ≡ None → cond b (Some x) (find p xs) ≡ None
none_in_front p k x xs true later e = absurd cc
none_in_front p k x xs false later e = later e

pub none_at : {A : Type 0} (p : A → Bool) (k : ℕ) (xs : List A) → position_from p k xs ≡ None → find p xs ≡ None
none_at p k [] e = refl
none_at p k (x ∷ xs) e = none_in_front p k x xs (p x) (none_at p (k + 1) xs) e

-- ---- names by their words

-- a word with a place stands there
pub placed : (names : List Name) (places : BTreeMap (List ℕ) ℕ) (word : List ℕ) (i : ℕ) → HasPlaces names places
    → Some i ≡ get (slice_cmp nat_cmp) places word → IsFirstAt (is_named word) 0 names i
placed names places word i h e = first_at (is_named word) 0 names i (sym (h.place word) ∙ sym e)

pub known_at : (names : List Name) (places : BTreeMap (List ℕ) ℕ) (word : List ℕ) (i : ℕ) (d : Name) → HasPlaces names places
    → Some i ≡ get (slice_cmp nat_cmp) places word → Some (get_or names i d) ≡ known names word
unfolding known
known_at names places word i d h e =
    let f : IsFirstAt (is_named word) 0 names i = placed names places word i h e in
    let z : i - 0 ≡ i = omega arith in
    sym (f.first d ∙ ap (λ n. Some (get_or names n d)) z)

pub unknown_at : (names : List Name) (places : BTreeMap (List ℕ) ℕ) (word : List ℕ) → HasPlaces names places
    → None ≡ get (slice_cmp nat_cmp) places word → None ≡ known names word
unfolding known
unknown_at names places word h e = sym (none_at (is_named word) 0 names (sym (h.place word) ∙ sym e))

none_behind : {A : Type 0} (p : A → Bool) (k : ℕ) (x : A) (xs : List A) (b : Bool)
    → (find p xs ≡ None → position_from p (k + 1) xs ≡ None)
    → cond b (Some x) (find p xs) ≡ None → cond b (Some k) (position_from p (k + 1) xs) ≡ None
none_behind p k x xs true later e = absurd cc
none_behind p k x xs false later e = later e

no_place : {A : Type 0} (p : A → Bool) (k : ℕ) (xs : List A) → find p xs ≡ None → position_from p k xs ≡ None
no_place p k [] e = refl
no_place p k (x ∷ xs) e = none_behind p k x xs (p x) (no_place p (k + 1) xs) e

place_behind : {A : Type 0} (p : A → Bool) (k : ℕ) (y : A) (xs : List A) (x : A) (b : Bool)
    → position_from p (k + 1) (xs ++ x ∷ []) ≡ option_or (position_from p (k + 1) xs) (cond (p x) (Some (k + 1 + length xs)) None)
    → cond b (Some k) (position_from p (k + 1) (xs ++ x ∷ [])) ≡ option_or (cond b (Some k) (position_from p (k + 1) xs)) (cond (p x) (Some (k + suc (length xs))) None)
place_behind p k y xs x true later = refl
place_behind p k y xs x false later =
    let z : k + 1 + length xs ≡ k + suc (length xs) = omega arith in
    later ∙ ap (λ n. option_or (position_from p (k + 1) xs) (cond (p x) (Some n) None)) z

-- one more element, at the end
pub position_push : {A : Type 0} (p : A → Bool) (k : ℕ) (xs : List A) (x : A)
    → position_from p k (xs ++ x ∷ []) ≡ option_or (position_from p k xs) (cond (p x) (Some (k + length xs)) None)
position_push p k [] x = let z : k ≡ k + 0 = omega arith in ap (λ n. cond (p x) (Some n) None) z
position_push p k (y ∷ xs) x = place_behind p k y xs x (p y) (position_push p (k + 1) xs x)

or_none : {A : Type 0} (o : Option A) → option_or o None ≡ o
or_none None = refl
or_none (Some x) = refl

same_place : (names : List Name) (name : Name) (q : List ℕ) (b : Bool) → is_eq (slice_cmp nat_cmp name.word q) ≡ b
    → find (is_named name.word) names ≡ None
    → cond b (Some (length names)) (position_from (is_named q) 0 names)
    ≡ option_or (position_from (is_named q) 0 names) (cond (is_named q name) (Some (0 + length names)) None)
same_place names name q true e free =
    let same : name.word ≡ q = slice_cmp-IsAntisymmetric nat_cmp-IsAntisymmetric name.word q ((Equal-is (slice_cmp nat_cmp name.word q)).0 e) in
    let gone : position_from (is_named q) 0 names ≡ None = no_place (is_named q) 0 names (subst (λ w. find (is_named w) names ≡ None) same free) in
    let turned : is_named q name ≡ true = (eq_by_cmp_equiv nat_list_cmp_total).symm q name.word ∙ e in
    let z : length names ≡ 0 + length names = omega arith in
    rw (gone, turned) (ap Some z)
same_place names name q false e free =
    let turned : is_named q name ≡ false = (eq_by_cmp_equiv nat_list_cmp_total).symm q name.word ∙ e in
    rw turned (sym (or_none (position_from (is_named q) 0 names)))

-- a new name behind the others, and its place
pub HasPlaces-push : (names : List Name) (name : Name) (before after : BTreeMap (List ℕ) ℕ) → HasPlaces names before
    → known names name.word ≡ None → Updates (slice_cmp nat_cmp) before after name.word (Some (length names))
    → HasPlaces (names ++ name ∷ []) after
unfolding known
HasPlaces-push names name before after h free u = record {
  place = λ q.
      u.0 q ∙ ap (λ o. cond (is_eq (slice_cmp nat_cmp name.word q)) (Some (length names)) o) (h.place q)
      ∙ same_place names name q (is_eq (slice_cmp nat_cmp name.word q)) refl free
      ∙ sym (position_push (is_named q) 0 names name);
}

-- the same map of places
pub HasPlaces-unchanged : (names : List Name) (before after : BTreeMap (List ℕ) ℕ) → HasPlaces names before → IsUnchanged before after
    → HasPlaces names after
HasPlaces-unchanged names before after h u = record { place = λ q. ap (lookup (λ k. is_eq (slice_cmp nat_cmp q k))) u ∙ h.place q }

pub declare_unknown : (names : List Name) (name : Name) → known names name.word ≡ None → declare names name ≡ names ++ name ∷ []
unfolding declare
declare_unknown names name e = rw e refl

pub declare_known : (names : List Name) (name : Name) → is_some (known names name.word) ≡ true → declare names name ≡ names
unfolding declare
declare_known names name e = rw e refl

-- whether a name is known, from whether it was found
pub is_some_copied : {A : Type 0} (r : Option (Bor A)) (o : Option A) (b : Bool) → option_copied r ≡ o → b ≡ is_some r → is_some o ≡ b
is_some_copied None o b e f = sym (f ∙ ap is_some e)
is_some_copied (Some x) o b e f = sym (f ∙ ap is_some e)

pub none_copied : {A : Type 0} (r : Option (Bor A)) (o : Option A) (b : Bool) → option_copied r ≡ o → b ≡ is_some r → b ≡ false → o ≡ None
none_copied None o b e f n = sym e
none_copied (Some x) o b e f n = absurd cc

-- names behind others
pub known-append : (names others : List Name) (word : List ℕ) → known (names ++ others) word ≡ option_or (known names word) (known others word)
unfolding known
known-append names others word = find-append (is_named word) names others

-- one name, from whether its word is the one that is sought
pub known_one : (name : Name) (word : List ℕ) (b : Bool) → b ≡ pointwise nat_eq word name.word → known (name ∷ []) word ≡ cond b (Some name) None
unfolding known
known_one name word b e = ap (λ c. cond c (Some name) None) (sym (e ∙ texts_ties word name.word))
