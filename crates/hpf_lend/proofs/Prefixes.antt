-- Lists that begin others.
use Rattle.std.specs.Prelude.{◌≡◌, ℕ, ◌<◌, ◌≤◌, List, [], ◌++◌, length, map, drop, get_or}
use Rattle.std.proofs.Common.{sym, ap, ◌∙◌, arith, append_assoc, append-nil, length-append}
use Rattle.std.proofs.lemmas.List.{map-append, nil_from_length, get_or_append_left}
use Rattle.std.proofs.lemmas.List.Prefix.{front_from_reads}
use mathlib.Core.List.{IsPrefix}

pub prefix_refl : {A : Type 0} (xs : List A) → IsPrefix xs xs
prefix_refl xs = ([], append-nil xs)

pub prefix_trans : {A : Type 0} (xs ys zs : List A) → IsPrefix xs ys → IsPrefix ys zs → IsPrefix xs zs
prefix_trans xs ys zs p q = (p.0 ++ q.0, sym (append_assoc xs p.0 q.0) ∙ (ap (λ front. front ++ q.0) p.1 ∙ q.1))

pub prefix_map : {A B : Type 0} (f : A → B) (xs ys : List A) → IsPrefix xs ys → IsPrefix (map f xs) (map f ys)
prefix_map f xs ys p = (map f p.0, sym (map-append f xs p.0) ∙ ap (map f) p.1)

pub prefix_length : {A : Type 0} (xs ys : List A) → IsPrefix xs ys → length xs ≤ length ys
prefix_length xs ys p = omega (arith, length-append xs p.0, ap length p.1)

-- a list that begins one no longer is the same
pub prefix_whole : {A : Type 0} (xs ys : List A) → IsPrefix xs ys → length ys ≤ length xs → xs ≡ ys
prefix_whole xs ys p long =
    let none : p.0 ≡ [] = nil_from_length p.0 (omega (arith, length-append xs p.0, ap length p.1)) in
    sym (append-nil xs) ∙ (ap (λ rest. xs ++ rest) (sym none) ∙ p.1)

pub prefix_reads : {A : Type 0} (xs ys : List A) → IsPrefix xs ys → (k : ℕ) (d : A) → k < length xs → get_or xs k d ≡ get_or ys k d
prefix_reads xs ys p k d below = sym (get_or_append_left xs p.0 d k below) ∙ ap (λ whole. get_or whole k d) p.1

pub prefix_from_reads : {A : Type 0} (d : A) (xs ys : List A) → length xs ≤ length ys → ((k : ℕ) → k < length xs → get_or xs k d ≡ get_or ys k d)
    → IsPrefix xs ys
prefix_from_reads d xs ys few reads = (drop (length xs) ys, sym (front_from_reads d ys xs few (λ k below. sym (reads k below))))
