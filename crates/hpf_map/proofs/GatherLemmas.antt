-- Values that are gathered one after another.
use Rattle.std.proofs.Common.{◌≡◌, ℕ, suc, ◌+◌, ◌<◌, List, [], ◌∷◌, ◌++◌, length, get_or, take, map, All, Option, Some, None, refl, sym, ap, subst, ◌∙◌, arith}
use Rattle.std.specs.Prelude.{option_map, unwrap_or}
use Rattle.std.proofs.lemmas.List.Elements.{All-cons}
use Rattle.std.proofs.lemmas.List.{take_more, map-append}
use Rattle.hpf_map.specs.Gathered.{all_of, with_one}

pub all_of-nil : {A : Type 0} → all_of {A = A} [] ≡ Some []
unfolding all_of
all_of-nil = refl

in_front : {A : Type 0} (y : A) (o : Option (List A)) (x : Option A) → option_map (λ ys. y ∷ ys) (with_one o x) ≡ with_one (option_map (λ ys. y ∷ ys) o) x
in_front y None x = refl
in_front y (Some ys) None = refl
in_front y (Some ys) (Some x) = refl

pub all_of_push : {A : Type 0} (xs : List (Option A)) (x : Option A) → all_of (xs ++ x ∷ []) ≡ with_one (all_of xs) x
unfolding all_of
all_of_push [] None = refl
all_of_push [] (Some x) = refl
all_of_push (None ∷ xs) x = refl
all_of_push (Some y ∷ xs) x = ap (option_map (λ ys. y ∷ ys)) (all_of_push xs x) ∙ in_front y (all_of xs) x

-- one more of a list, of which each is seen as something else and gives a value
pub gather_more : {A B C : Type 0} (see : A → B) (f : B → Option C) (xs : List A) (i : ℕ) (x : A) (before after : Option (List C))
    → i < length xs → x ≡ get_or xs i x → before ≡ all_of (map f (map see (take i xs))) → after ≡ with_one before (f (see x))
    → after ≡ all_of (map f (map see (take (i + 1) xs)))
gather_more see f xs i x before after below is b e =
    e ∙ ap (λ o. with_one o (f (see x))) b ∙ sym (all_of_push (map f (map see (take i xs))) (f (see x)))
    ∙ ap all_of (sym (map-append f (map see (take i xs)) (see x ∷ []))
    ∙ ap (map f) (sym (map-append see (take i xs) (x ∷ []))
    ∙ ap (map see) (ap (λ y. take i xs ++ y ∷ []) is ∙ sym (take_more xs i x below))))

-- ---- what all values have in common

some_same : {A : Type 0} (x y : A) → Some x ≡ Some y → x ≡ y
some_same x y e = ap (λ o. unwrap_or o x) e

none_is_no_list : {A B : Type 0} (x : A) → None ≡ Some x → B
none_is_no_list x e = absurd cc

front_of : {A : Type 0} (x : A) (o : Option (List A)) (ys : List A) → option_map (λ xs. x ∷ xs) o ≡ Some ys
    → (xs : List A) × (o ≡ Some xs) × (ys ≡ x ∷ xs)
front_of x None ys e = none_is_no_list ys e
front_of x (Some xs) ys e = (xs, refl, sym (some_same (x ∷ xs) ys e))

-- there are as many of them
pub all_of_length : {A : Type 0} (os : List (Option A)) (ys : List A) → all_of os ≡ Some ys → length ys ≡ length os
unfolding all_of
all_of_length [] ys e = ap length (sym (some_same [] ys e))
all_of_length (None ∷ os) ys e = none_is_no_list ys e
all_of_length (Some x ∷ os) ys e =
    let f = front_of x (all_of os) ys e in
    ap length f.2 ∙ ap suc (all_of_length os f.0 f.1)

-- each is one that the function gives
pub all_of_all : {A B : Type 0} (P : A → Type 0) (f : B → Option A) → ((b : B) (x : A) → f b ≡ Some x → P x)
    → (bs : List B) (ys : List A) → all_of (map f bs) ≡ Some ys → All P ys
unfolding all_of
all_of_all P f h [] ys e = subst (All P) (some_same [] ys e) (λ k d l. absurd (omega (arith, l)))
all_of_all {A} P f h (b ∷ bs) ys e = each (f b) refl e (λ zs r. all_of_all P f h bs zs r) where
  each : (o : Option A) → f b ≡ o → all_of (o ∷ map f bs) ≡ Some ys → ((zs : List A) → all_of (map f bs) ≡ Some zs → All P zs) → All P ys
  each None is e more = none_is_no_list ys e
  each (Some x) is e more =
      let r = front_of x (all_of (map f bs)) ys e in
      subst (All P) (sym r.2) (All-cons P x r.0 (h b x is) (more r.0 r.1))
