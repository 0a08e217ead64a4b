-- What holds of all elements of a list, of which each is seen as something else.
use Rattle.std.proofs.Common.{◌≡◌, ℕ, ◌+◌, ◌<◌, Bool, true, false, List, length, get_or, take, map, sym, ap, ◌∙◌}
use Rattle.std.specs.List.{list_all}
use Rattle.std.proofs.lemmas.Bool.{and_from}
use Rattle.std.proofs.lemmas.List.Folds.{list_all-map, list_all_more, list_all_at}

-- one element more
pub all_more : {A B : Type 0} (see : A → B) (p : B → Bool) (xs : List A) (i : ℕ) (x : A) → i < length xs → x ≡ get_or xs i x
    → list_all p (map see (take i xs)) ≡ true → p (see x) ≡ true → list_all p (map see (take (i + 1) xs)) ≡ true
all_more see p xs i x below is all one =
    list_all-map p see (take (i + 1) xs) ∙ list_all_more (λ y. p (see y)) xs i x below
    ∙ and_from _ _ (sym (list_all-map p see (take i xs)) ∙ all) (ap (λ y. p (see y)) (sym is) ∙ one)

-- one element for which it doesn't hold
pub one_fails : {A B : Type 0} (see : A → B) (p : B → Bool) (xs : List A) (i : ℕ) (x : A) → i < length xs → x ≡ get_or xs i x
    → p (see x) ≡ false → false ≡ list_all p (map see xs)
one_fails see p xs i x below is fails =
    sym (list_all-map p see xs ∙ list_all_at (λ y. p (see y)) xs i x below (ap (λ y. p (see y)) (sym is) ∙ fails))
