-- A list is printed by its first piece, and each later one behind a comma and a blank; several names stand behind
-- what is said of them and two colons.
use Rattle.std.proofs.Common.{◌≡◌, ℕ, List, [], ◌∷◌, ◌++◌, ◌-◌, ◌≤◌, take, drop, map, length, get_or, refl, sym, ap, ◌∙◌, append_assoc, arith}
use Rattle.std.specs.Prelude.{codes, ◌≢◌}
use Rattle.hpf_syntax.specs.declared.tree.Spot.{Spot}
use Rattle.std.specs.List.{flat_map}
use Rattle.std.proofs.lemmas.List.{append-nil}
use Rattle.std.proofs.lemmas.Grind.{common_steps}
use Rattle.hpf_syntax.specs.Canonical.{listed, name_text, of_names}

-- pieces that stand behind another
abbrev pub later : {A : Type 0} → (A → List ℕ) → List A → List ℕ
later text xs = flat_map (λ x. codes ", " ++ text x) xs

pub listed_from_first : {A : Type 0} (text : A → List ℕ) (x : A) (xs : List A) → listed text (x ∷ xs) ≡ text x ++ later text xs
listed_from_first text x [] = sym (append-nil (text x))
listed_from_first text x (y ∷ ys) =
    ap (λ l. text x ++ l) (ap (λ l. codes ", " ++ l) (listed_from_first text y ys) ∙ sym (append_assoc (codes ", ") (text y) (later text ys)))

-- all behind the first
pub whole_rest : {A : Type 0} (x : A) (xs : List A) (i : ℕ) → length (take (length (x ∷ xs) - 1) (drop 1 (x ∷ xs))) ≤ i
    → take i (take (length (x ∷ xs) - 1) (drop 1 (x ∷ xs))) ≡ xs
whole_rest x xs i h = grind (arith, common_steps)

-- A list is printed by its first piece and all later ones.
pub listed_whole : {A B : Type 0} (text : B → List ℕ) (tree : A → B) (xs : List A) (first : A) (i : ℕ) (before between out : List ℕ)
    → 1 ≤ length xs → first ≡ get_or xs 0 first → length (take (length xs - 1) (drop 1 xs)) ≤ i
    → between ≡ before ++ text (tree first)
    → out ≡ between ++ later text (map tree (take i (take (length xs - 1) (drop 1 xs))))
    → out ≡ before ++ listed text (map tree xs)
listed_whole text tree [] first i before between out some is all e f = absurd (omega arith)
listed_whole text tree (x ∷ xs) first i before between out some is all e f =
    let g : take i (take (length (x ∷ xs) - 1) (drop 1 (x ∷ xs))) ≡ xs = whole_rest x xs i all in
    let w : first ≡ x = is in
    let t : between ≡ before ++ text (tree x) = rw (← w) e in
    let u : out ≡ between ++ later text (map tree xs) = rw g at f in
    rw (listed_from_first text (tree x) (map tree xs)) (u ∙ ap (λ l. l ++ later text (map tree xs)) t ∙ append_assoc before (text (tree x)) (later text (map tree xs)))

-- of several names is said what stands before them
pub of_several : (names : List Spot) (behind alone : List ℕ) → length names ≢ 1
    → of_names names behind alone ≡ alone ++ (codes " :: " ++ listed name_text names)
of_several [] behind alone h = refl
of_several (name ∷ []) behind alone h = absurd (h refl)
of_several (name ∷ other ∷ others) behind alone h = refl
