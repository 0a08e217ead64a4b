-- Mappings that nobody can tell apart have the same parts and owners.
use Rattle.std.proofs.Common.{◌≡◌, ℕ, zero, suc, ◌+◌, ◌<◌, ◌≤◌, Bool, ◌&&◌, ◌||◌, cond, List, [], ◌∷◌, length, get_or, ℤ, refl, ap, ◌∙◌, arith}
use Rattle.std.specs.List.{filter, range_with_len, list_any}
use Rattle.hpf_num.specs.declared.run.Run.{Run}
use Rattle.hpf_own.specs.declared.widths.Width.{Width}
use Rattle.hpf_own.specs.Alike.{AreAlike}
use Rattle.hpf_own.specs.Held.{Part, owned_part, held_part, is_held, is_around}
use Rattle.hpf_own.specs.Mapping.{PlainMapping}
use Rattle.hpf_own.specs.Owners.{owns, owners, sender}
use Rattle.hpf_own.specs.Space.{indices, product, LiesIn}

-- what is known of the element order: it lists nothing but indices
abbrev pub OnlyIndices : Type 0
OnlyIndices = (bounds : List Run) (k : ℕ) (d : List ℤ) → k < length (indices bounds) → LiesIn bounds (get_or (indices bounds) k d)

-- ---- the same of each item

filter_in_range : (f g : ℕ → Bool) (a n : ℕ) → ((k : ℕ) → a ≤ k → k < a + n → f k ≡ g k) → filter f (range_with_len a n) ≡ filter g (range_with_len a n)
filter_in_range f g a zero same = refl
filter_in_range f g a (suc n) same =
    let first : f a ≡ g a = same a (omega arith) (omega arith) in
    let rest = filter_in_range f g (a + 1) n (λ k least most. same k (omega arith) (omega arith)) in
    ap (λ (b : Bool). cond b (a ∷ filter f (range_with_len (a + 1) n)) (filter f (range_with_len (a + 1) n))) first
    ∙ ap (λ (xs : List ℕ). cond (g a) (a ∷ xs) xs) rest

-- two functions agree on each item
abbrev Agree : {A B : Type 0} → (A → B) → (A → B) → List A → Type 0
Agree {A} f g xs = (k : ℕ) (d : A) → k < length xs → f (get_or xs k d) ≡ g (get_or xs k d)

agree_behind : {A B : Type 0} (f g : A → B) (x : A) (xs : List A) → Agree f g (x ∷ xs) → Agree f g xs
agree_behind f g x xs same = λ k d below. same (suc k) d (omega arith)

filter_alike : {A : Type 0} (f g : A → Bool) (xs : List A) → Agree f g xs → filter f xs ≡ filter g xs
filter_alike f g [] same = refl
filter_alike {A} f g (x ∷ xs) same =
    ap (λ (b : Bool). cond b (x ∷ filter f xs) (filter f xs)) (same 0 x (omega arith))
    ∙ ap (λ (ys : List A). cond (g x) (x ∷ ys) ys) (filter_alike f g xs (agree_behind f g x xs same))

any_alike : {A : Type 0} (f g : A → Bool) (xs : List A) → Agree f g xs → list_any f xs ≡ list_any g xs
any_alike f g [] same = refl
any_alike f g (x ∷ xs) same =
    ap (λ (b : Bool). b || list_any f xs) (same 0 x (omega arith)) ∙ ap (λ (b : Bool). g x || b) (any_alike f g xs (agree_behind f g x xs same))

-- ---- two mappings
module _ (only : OnlyIndices) (m w : PlainMapping) (same : AreAlike m w) where
  owns_alike : (p : ℕ) → p < product m.procs → Agree (owns m p) (owns w p) (indices m.bounds)
  owns_alike p below = λ k d few. same.owners p (get_or (indices m.bounds) k d) below (only m.bounds k d few)

  holds_alike : (p : ℕ) (index : List ℤ) → p < product m.procs → is_held m p index ≡ is_held w p index
  holds_alike p index below =
      any_alike (λ other. owns m p other && is_around m.shadow other index) (λ other. owns w p other && is_around m.shadow other index) (indices m.bounds)
      (λ k d few. ap (λ (b : Bool). b && is_around m.shadow (get_or (indices m.bounds) k d) index) (owns_alike p below k d few))
      ∙ (ap (λ (widths : List Width). list_any (λ other. owns w p other && is_around widths other index) (indices m.bounds)) same.shadow
      ∙ ap (λ (runs : List Run). list_any (λ other. owns w p other && is_around w.shadow other index) (indices runs)) same.bounds)

  abbrev of_bounds : (ℕ → List Run → List (List ℤ)) → ℕ → List Run → Part
  of_bounds f p runs = record { rank = length runs; indices = f p runs }

  pub same_owned : (p : ℕ) → p < product m.procs → owned_part m p ≡ owned_part w p
  same_owned p below =
      ap (λ (is : List (List ℤ)). let part : Part = record { rank = length m.bounds; indices = is } in part) (filter_alike (owns m p) (owns w p) (indices m.bounds) (owns_alike p below))
      ∙ ap (of_bounds (λ q runs. filter (owns w q) (indices runs)) p) same.bounds

  pub same_held : (p : ℕ) → p < product m.procs → held_part m p ≡ held_part w p
  same_held p below =
      ap (λ (is : List (List ℤ)). let part : Part = record { rank = length m.bounds; indices = is } in part) (filter_alike (is_held m p) (is_held w p) (indices m.bounds) (λ k d few. holds_alike p (get_or (indices m.bounds) k d) below))
      ∙ ap (of_bounds (λ q runs. filter (is_held w q) (indices runs)) p) same.bounds

  pub same_owners : (index : List ℤ) → LiesIn m.bounds index → owners m index ≡ owners w index
  same_owners index lies =
      filter_in_range (λ p. owns m p index) (λ p. owns w p index) 0 (product m.procs) (λ p least most. same.owners p index (omega arith) lies)
      ∙ ap (λ (sizes : List ℕ). filter (λ p. owns w p index) (range_with_len 0 (product sizes))) same.procs

  pub same_sender : (index : List ℤ) → LiesIn m.bounds index → sender m index ≡ sender w index
  same_sender index lies =
      ap (λ (ps : List ℕ). get_or ps 0 (product m.procs)) (same_owners index lies)
      ∙ ap (λ (sizes : List ℕ). get_or (owners w index) 0 (product sizes)) same.procs
