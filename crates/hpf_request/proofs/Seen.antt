-- What holds of some element of a list, of which each is seen as something else.
use Rattle.std.proofs.Common.{◌≡◌, ℕ, ◌+◌, ◌<◌, ◌||◌, Bool, true, false, List, [], ◌∷◌, length, get_or, take, map, refl, sym, ap, ◌∙◌}
use Rattle.std.specs.List.{list_any}
use Rattle.std.proofs.lemmas.Bool.{or_from}
use Rattle.std.proofs.lemmas.List.Folds.{list_any_more, list_any_at}

pub any_seen : {A B : Type 0} (see : A → B) (p : B → Bool) (xs : List A) → list_any p (map see xs) ≡ list_any (λ x. p (see x)) xs
any_seen see p [] = refl
any_seen see p (x ∷ xs) = ap (λ b. p (see x) || b) (any_seen see p xs)

-- one element more, of which it doesn't hold
pub none_more : {A B : Type 0} (see : A → B) (p : B → Bool) (xs : List A) (i : ℕ) (x : A) → i < length xs → x ≡ get_or xs i x
    → list_any p (map see (take i xs)) ≡ false → p (see x) ≡ false → list_any p (map see (take (i + 1) xs)) ≡ false
none_more see p xs i x below is none fails =
    any_seen see p (take (i + 1) xs) ∙ list_any_more (λ y. p (see y)) xs i x below
    ∙ or_from _ _ (sym (any_seen see p (take i xs)) ∙ none) (ap (λ y. p (see y)) (sym is) ∙ fails)

-- an element of which it holds
pub one_has : {A B : Type 0} (see : A → B) (p : B → Bool) (xs : List A) (i : ℕ) (x : A) → i < length xs → x ≡ get_or xs i x
    → p (see x) ≡ true → true ≡ list_any p (map see xs)
one_has see p xs i x below is has =
    sym (any_seen see p xs ∙ list_any_at (λ y. p (see y)) xs i x below (ap (λ y. p (see y)) (sym is) ∙ has))
