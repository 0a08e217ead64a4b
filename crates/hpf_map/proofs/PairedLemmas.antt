-- A list beside one of what may be there for each of its items.
use Rattle.std.proofs.Common.{◌≡◌, ℕ, suc, ◌+◌, ◌<◌, List, [], ◌∷◌, ◌++◌, length, get_or, take, drop, map, Option, refl, sym, ap, ◌∙◌, append_assoc, append-nil, arith}
use Rattle.std.proofs.lemmas.List.{length-map, length-take-le}
use Rattle.hpf_lex.specs.declared.refusal.MapRefusal.{MapRefusal}
use Rattle.hpf_map.specs.Found.{least_with}
use Rattle.hpf_map.specs.Paired.{at_place, each_with}
use Rattle.hpf_map.proofs.DeclareLemmas.{seen_more}
use Rattle.hpf_map.proofs.FoundLemmas.{least_with-append}

-- what stands at a place behind the first
pub next_place : {B : Type 0} (others : List (Option B)) (k : ℕ) → at_place k (drop 1 others) ≡ at_place (suc k) others
next_place [] k = refl
next_place (o ∷ others) k = refl

each_with_push : {A B C : Type 0} (give : A → Option B → List C) (xs : List A) (x : A) (others : List (Option B))
    → each_with give (xs ++ x ∷ []) others ≡ each_with give xs others ++ give x (at_place (length xs) others)
each_with_push give [] x others = append-nil (give x (at_place 0 others))
each_with_push give (y ∷ xs) x others =
    ap (λ l. give y (at_place 0 others) ++ l) (each_with_push give xs x (drop 1 others) ∙ ap (λ o. each_with give xs (drop 1 others) ++ give x o) (next_place others (length xs)))
    ∙ sym (append_assoc (give y (at_place 0 others)) (each_with give xs (drop 1 others)) (give x (at_place (suc (length xs)) others)))

-- one more of a list, of which each is seen as something else and taken in
pub each_with_more : {A B S : Type 0} (see : A → B) (give : B → Option S → List MapRefusal) (xs : List A) (i : ℕ) (x : A) (others : List (Option S)) (h0 h1 h2 : Option MapRefusal)
    → i < length xs → x ≡ get_or xs i x → h1 ≡ least_with h0 (each_with give (map see (take i xs)) others) → h2 ≡ least_with h1 (give (see x) (at_place i others))
    → h2 ≡ least_with h0 (each_with give (map see (take (i + 1) xs)) others)
each_with_more see give xs i x others h0 h1 h2 below is before step =
    let size : length (map see (take i xs)) ≡ i = length-map (take i xs) see ∙ length-take-le i xs (omega (arith, below)) in
    step ∙ ap (λ h. least_with h (give (see x) (at_place i others))) before
    ∙ least_with-append h0 (each_with give (map see (take i xs)) others) (give (see x) (at_place i others))
    ∙ ap (least_with h0) (ap (λ n. each_with give (map see (take i xs)) others ++ give (see x) (at_place n others)) (sym size)
    ∙ sym (each_with_push give (map see (take i xs)) (see x) others) ∙ ap (λ l. each_with give l others) (sym (seen_more see xs i x below is)))
