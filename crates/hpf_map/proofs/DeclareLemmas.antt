-- Names that are declared one after another.
use Rattle.std.proofs.Common.{◌≡◌, ℕ, ◌+◌, ◌<◌, Bool, true, ◌||◌, List, [], ◌∷◌, ◌++◌, length, get_or, take, map, Option, refl, sym, ap, ◌∙◌, append_assoc}
use Rattle.std.specs.Prelude.{fold}
use Rattle.std.specs.List.{list_any}
use Rattle.std.proofs.lemmas.List.Folds.{list_any_at}
use Rattle.std.proofs.lemmas.List.{take_more, map-append, length-map, append-nil}
use Rattle.std.proofs.lemmas.List.Sums.{fold-append}
use Rattle.hpf_lex.specs.declared.refusal.MapRefusal.{MapRefusal}
use Rattle.hpf_syntax.specs.declared.tree.Bound.{Bound}
use Rattle.hpf_syntax.specs.Plain.{bound_tree}
use Rattle.hpf_map.specs.Declarations.{threaded}
use Rattle.hpf_map.specs.Found.{least_with}
use Rattle.hpf_map.proofs.FoundLemmas.{least_with-append}

pub count_seen : (bounds : List Bound) → length (map bound_tree bounds) ≡ length bounds
count_seen bounds = simp length-map

-- one more behind others
pub threaded_push : {S A B : Type 0} (next : S → A → S) (give : S → A → List B) (s : S) (xs : List A) (x : A)
    → threaded next give s (xs ++ x ∷ []) ≡ threaded next give s xs ++ give (fold next s xs) x
threaded_push next give s [] x = append-nil (give s x)
threaded_push next give s (y ∷ xs) x =
    ap (λ l. give s y ++ l) (threaded_push next give (next s y) xs x)
    ∙ sym (append_assoc (give s y) (threaded next give (next s y) xs) (give (fold next (next s y) xs) x))

-- The state and the breaches after some elements of a list, each seen as something else.
pub record Threads {S A B : Type 0} (see : A → B) (next : S → B → S) (give : S → B → List MapRefusal) (xs : List A) (i : ℕ)
    (s0 s1 : S) (h0 h1 : Option MapRefusal) : Type 0 where
  pub state : s1 ≡ fold next s0 (map see (take i xs))
  pub breaches : h1 ≡ least_with h0 (threaded next give s0 (map see (take i xs)))

-- one more of a list, each seen as something else
pub seen_more : {A B : Type 0} (see : A → B) (xs : List A) (i : ℕ) (x : A) → i < length xs → x ≡ get_or xs i x
    → map see (take (i + 1) xs) ≡ map see (take i xs) ++ see x ∷ []
seen_more see xs i x below is =
    ap (map see) (take_more xs i x below ∙ ap (λ y. take i xs ++ y ∷ []) (sym is)) ∙ map-append see (take i xs) (x ∷ [])

-- one element more
pub Threads-more : {S A B : Type 0} {see : A → B} {next : S → B → S} {give : S → B → List MapRefusal} {xs : List A} {i : ℕ} {s0 s1 : S}
    {h0 h1 : Option MapRefusal} (x : A) (s2 : S) (h2 : Option MapRefusal) → Threads see next give xs i s0 s1 h0 h1
    → i < length xs → x ≡ get_or xs i x → s2 ≡ next s1 (see x) → h2 ≡ least_with h1 (give s1 (see x))
    → Threads see next give xs (i + 1) s0 s2 h0 h2
Threads-more {see = see} {next = next} {give = give} {xs = xs} {i = i} {s0 = s0} {s1 = s1} {h0 = h0} {h1 = h1} x s2 h2 t below is s h =
    let more = seen_more see xs i x below is in
    record {
      state =
          s ∙ ap (λ u. next u (see x)) t.state ∙ sym (ap (fold next s0) more ∙ fold-append next s0 (map see (take i xs)) (see x ∷ []));
      breaches =
          h ∙ ap (λ u. least_with h1 (give u (see x))) t.state
          ∙ ap (λ k. least_with k (give (fold next s0 (map see (take i xs))) (see x))) t.breaches
          ∙ least_with-append h0 (threaded next give s0 (map see (take i xs))) (give (fold next s0 (map see (take i xs))) (see x))
          ∙ sym (ap (λ l. least_with h0 (threaded next give s0 l)) more ∙ ap (least_with h0) (threaded_push next give s0 (map see (take i xs)) (see x)));
    }

-- what one element more gives, of a list in which each is seen as something else
pub threaded_more : {S A B C : Type 0} (see : A → B) (next : S → B → S) (give : S → B → List C) (xs : List A) (i : ℕ) (x : A) (s0 s1 : S)
    (before after : List C) → i < length xs → x ≡ get_or xs i x → s1 ≡ fold next s0 (map see (take i xs))
    → before ≡ threaded next give s0 (map see (take i xs)) → after ≡ before ++ give s1 (see x)
    → after ≡ threaded next give s0 (map see (take (i + 1) xs))
threaded_more see next give xs i x s0 s1 before after below is s b a =
    a ∙ ap (λ l. l ++ give s1 (see x)) b ∙ ap (λ u. threaded next give s0 (map see (take i xs)) ++ give u (see x)) s
    ∙ sym (threaded_push next give s0 (map see (take i xs)) (see x))
    ∙ ap (threaded next give s0) (sym (seen_more see xs i x below is))

list_any_seen : {A B : Type 0} (see : A → B) (p : B → Bool) (xs : List A) → list_any p (map see xs) ≡ list_any (λ x. p (see x)) xs
list_any_seen see p [] = refl
list_any_seen see p (x ∷ xs) = ap (λ b. p (see x) || b) (list_any_seen see p xs)

-- a variable without bounds of its own
pub some_at : {A B : Type 0} (see : A → B) (p : B → Bool) (xs : List A) (i : ℕ) (x : A) → i < length xs → x ≡ get_or xs i x → p (see x) ≡ true
    → true ≡ list_any p (map see xs)
some_at see p xs i x below is e = sym (list_any_seen see p xs ∙ list_any_at (λ y. p (see y)) xs i x below (ap (λ y. p (see y)) (sym is) ∙ e))
