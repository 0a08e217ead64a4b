-- The greatest of the lines of several things.
use Rattle.std.proofs.Common.{◌≡◌, ℕ, ◌+◌, ◌<◌, max, List, [], ◌∷◌, ◌++◌, length, get_or, take, map, sym, ap, ◌∙◌, arith}
use Rattle.std.proofs.lemmas.List.{map-append}
use Rattle.hpf_map.specs.Places.{greatest_of, in_all}
use Rattle.hpf_map.proofs.DeclareLemmas.{seen_more}

greatest_of_push : (ns : List ℕ) (n : ℕ) → greatest_of (ns ++ n ∷ []) ≡ max (greatest_of ns) n
greatest_of_push [] n = omega arith
greatest_of_push (m ∷ ns) n = let more : greatest_of (ns ++ n ∷ []) ≡ max (greatest_of ns) n = greatest_of_push ns n in omega arith

-- one more of a list, of which each is seen as something else
pub last_more : {A B : Type 0} (see : A → B) (line : B → ℕ) (xs : List A) (i : ℕ) (x : A) (before after : ℕ) → i < length xs → x ≡ get_or xs i x
    → before ≡ in_all line (map see (take i xs)) → after ≡ max before (line (see x)) → after ≡ in_all line (map see (take (i + 1) xs))
last_more see line xs i x before after below is b step =
    step ∙ ap (λ n. max n (line (see x))) b
    ∙ sym (greatest_of_push (map line (map see (take i xs))) (line (see x)))
    ∙ ap greatest_of (sym (map-append line (map see (take i xs)) (see x ∷ [])))
    ∙ sym (ap (in_all line) (seen_more see xs i x below is))
