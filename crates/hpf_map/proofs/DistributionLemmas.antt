-- The number of dimensions that are divided.
use Rattle.std.proofs.Common.{◌≡◌, ℕ, ◌+◌, ◌<◌, Bool, true, false, List, [], ◌∷◌, ◌++◌, length, get_or, take, map, refl, sym, ap, ◌∙◌, arith, length-append}
use Rattle.std.specs.Prelude.{if◌then◌else◌, filter}
use Rattle.std.proofs.lemmas.List.{length-map, take_more}
use Rattle.std.proofs.lemmas.List.Elements.{filter-append}
use Rattle.hpf_syntax.specs.declared.tree.FormatItem.{FormatItem}
use Rattle.hpf_syntax.specs.Plain.{FormatTree, format_tree}
use Rattle.hpf_map.specs.Distributions.{divides, divided}
use Rattle.hpf_map.proofs.DeclareLemmas.{seen_more}

pub formats_seen : (formats : List FormatItem) → length (map format_tree formats) ≡ length formats
formats_seen formats = simp length-map

divided_cons : (b : Bool) (x : FormatTree) (xs : List FormatTree) → divides x ≡ b → divided (x ∷ xs) ≡ (if b then divided xs + 1 else divided xs)
divided_cons true x xs e = rw e (omega arith)
divided_cons false x xs e = rw e refl

divided_push : (xs : List FormatTree) (x : FormatTree) (b : Bool) → divides x ≡ b → divided (xs ++ x ∷ []) ≡ (if b then divided xs + 1 else divided xs)
divided_push xs x true e = ap length (filter-append divides xs (x ∷ [])) ∙ length-append (filter divides xs) (filter divides (x ∷ [])) ∙ ap (λ n. divided xs + n) (divided_cons true x [] e)
divided_push xs x false e =
    ap length (filter-append divides xs (x ∷ [])) ∙ length-append (filter divides xs) (filter divides (x ∷ []))
    ∙ ap (λ n. divided xs + n) (divided_cons false x [] e) ∙ omega arith

-- one format more
pub divided_more : (xs : List FormatItem) (i : ℕ) (x : FormatItem) (n : ℕ) (b : Bool) → i < length xs → x ≡ get_or xs i x
    → n ≡ divided (map format_tree (take i xs)) → b ≡ divides (format_tree x) → (if b then n + 1 else n) ≡ divided (map format_tree (take (i + 1) xs))
divided_more xs i x n b below is e f =
    ap (λ m. if b then m + 1 else m) e ∙ sym (divided_push (map format_tree (take i xs)) (format_tree x) b (sym f))
    ∙ sym (ap divided (seen_more format_tree xs i x below is))

-- ---- elements that pass a test, in general

count_one : {A : Type 0} (p : A → Bool) (x : A) (b : Bool) → p x ≡ b → length (filter p (x ∷ [])) ≡ (if b then 1 else 0)
count_one p x true e = rw e refl
count_one p x false e = rw e refl

count_grown : (n : ℕ) (b : Bool) → n + (if b then 1 else 0) ≡ (if b then n + 1 else n)
count_grown n true = refl
count_grown n false = omega arith

-- one element more
pub count_more : {A : Type 0} (p : A → Bool) (xs : List A) (i : ℕ) (x : A) (n : ℕ) (b : Bool) → i < length xs → x ≡ get_or xs i x
    → n ≡ length (filter p (take i xs)) → b ≡ p x → (if b then n + 1 else n) ≡ length (filter p (take (i + 1) xs))
count_more p xs i x n b below is e f =
    sym (count_grown n b) ∙ ap (λ m. m + (if b then 1 else 0)) e
    ∙ ap (λ m. length (filter p (take i xs)) + m) (sym (count_one p x b (sym f)))
    ∙ sym (length-append (filter p (take i xs)) (filter p (x ∷ [])))
    ∙ sym (ap length (filter-append p (take i xs) (x ∷ [])))
    ∙ ap (λ l. length (filter p l)) (ap (λ y. take i xs ++ y ∷ []) is ∙ sym (take_more xs i x below))
