-- Lists of breaches that are empty.
use Rattle.std.proofs.Common.{◌≡◌, ℕ, zero, suc, Bool, true, false, List, [], ◌∷◌, ◌++◌, drop, Option, Some, None, inl, inr, refl, sym, ap, ◌∙◌}
use Rattle.std.specs.Prelude.{Contains, slice_get, fold}
use Rattle.std.specs.List.{flat_map}
use Rattle.hpf_lex.specs.declared.refusal.MapRefusal.{MapRefusal}
use Rattle.hpf_lex.specs.Order.{least}
use Rattle.hpf_syntax.specs.declared.tree.At.{At}
use Rattle.hpf_map.specs.declared.constraint.Constraint.{Constraint}
use Rattle.hpf_map.specs.Constraint.{breach_if}
use Rattle.hpf_map.specs.Declarations.{threaded}
use Rattle.hpf_map.specs.Paired.{each_with, at_place}
use Rattle.hpf_map.proofs.ChoiceLemmas.{contains_cases, contains_none}
use Rattle.hpf_map.proofs.PairedLemmas.{next_place}

pub least_none : (breaches : List MapRefusal) → least breaches ≡ None → breaches ≡ []
least_none [] h = refl
least_none (f ∷ others) h = absurd cc

-- ---- parts of an empty list

pub first_empty : {A : Type 0} (xs ys : List A) → xs ++ ys ≡ [] → xs ≡ []
first_empty [] ys h = refl
first_empty (x ∷ xs) ys h = absurd cc

pub others_empty : {A : Type 0} (xs ys : List A) → xs ++ ys ≡ [] → ys ≡ []
others_empty [] ys h = h
others_empty (x ∷ xs) ys h = absurd cc

-- a constraint that is kept
pub breach_if_none : (broken : Bool) (constraint : Constraint) (at : At) → breach_if broken constraint at ≡ [] → broken ≡ false
breach_if_none true constraint at h = absurd cc
breach_if_none false constraint at h = refl

-- what each gives is empty where all of it is
pub each_empty : {A B : Type 0} (f : A → List B) (xs : List A) → flat_map f xs ≡ [] → (x : A) → Contains xs x → f x ≡ []
each_empty f [] h x has = absurd (contains_none x has)
each_empty f (y ∷ xs) h x has = elim (contains_cases y xs x has) [
  | inl is ↦ ap f (sym is) ∙ first_empty (f y) (flat_map f xs) h
  | inr later ↦ each_empty f xs (others_empty (f y) (flat_map f xs) h) x later
]

pub each_with_empty : {A B C : Type 0} (give : A → Option B → List C) (xs : List A) (others : List (Option B)) → each_with give xs others ≡ []
    → (k : ℕ) (x : A) → slice_get xs k ≡ Some x → give x (at_place k others) ≡ []
each_with_empty give [] others h k x is = absurd cc
each_with_empty give (y ∷ xs) others h zero x is =
    let same : y ≡ x = cc in
    ap (λ z. give z (at_place 0 others)) (sym same) ∙ first_empty (give y (at_place 0 others)) (each_with give xs (drop 1 others)) h
each_with_empty give (y ∷ xs) others h (suc k) x is =
    ap (give x) (sym (next_place others k))
    ∙ each_with_empty give xs (drop 1 others) (others_empty (give y (at_place 0 others)) (each_with give xs (drop 1 others)) h) k x is

-- ---- lists in which each changes what the next stands behind

-- what each step without a breach keeps
pub threaded_keeps : {S A B : Type 0} (P : S → Type 0) (next : S → A → S) (give : S → A → List B)
    → ((s : S) (x : A) → P s → give s x ≡ [] → P (next s x))
    → (s : S) (xs : List A) → P s → threaded next give s xs ≡ [] → P (fold next s xs)
threaded_keeps P next give step s [] h none = h
threaded_keeps P next give step s (x ∷ xs) h none =
    threaded_keeps P next give step (next s x) xs (step s x h (first_empty (give s x) (threaded next give (next s x) xs) none))
    (others_empty (give s x) (threaded next give (next s x) xs) none)
