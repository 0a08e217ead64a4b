-- The dimensions of the arrangement that formats take, in order.
use Rattle.std.proofs.Common.{◌≡◌, ◌==◌, ℕ, zero, suc, ◌+◌, ◌<◌, true, false, cond, List, [], ◌∷◌, ◌++◌, length, get_or, take, map, Option, Some, inl, inr, refl, sym, ap, ◌∙◌, arith}
use Rattle.std.specs.Prelude.{filter}
use Rattle.std.specs.List.{flat_map, range_with_len}
use Rattle.std.proofs.lemmas.Bool.{cases_Bool, cond-true, cond-false, eqb-true}
use Rattle.std.proofs.lemmas.List.{flat_map_more, take-map}
use Rattle.hpf_lex.specs.declared.refusal.MapRefusal.{MapRefusal}
use Rattle.hpf_syntax.specs.declared.tree.FormatItem.{FormatItem}
use Rattle.hpf_syntax.specs.Plain.{FormatTree, format_tree}
use Rattle.hpf_map.specs.Distributions.{divides, divided}
use Rattle.hpf_map.specs.declared.name.Span.{Span}
use Rattle.hpf_map.specs.Dealing.{Dealt, over, dealing_breaches, sized_breaches}
use Rattle.hpf_map.specs.Found.{least_with}
use Rattle.hpf_map.proofs.FoundLemmas.{least_with-append}

divided_one : (f : FormatTree) (formats : List FormatTree) → divides f ≡ true → divided (f ∷ formats) ≡ suc (divided formats)
divided_one f formats e = ap length (cond-true (divides f) (f ∷ filter divides formats) (filter divides formats) e)

divided_none : (f : FormatTree) (formats : List FormatTree) → divides f ≡ false → divided (f ∷ formats) ≡ divided formats
divided_none f formats e = ap length (cond-false (divides f) (f ∷ filter divides formats) (filter divides formats) e)

-- a format that divides takes a dimension that there is
pub over_below : (formats : List FormatTree) (k : ℕ) (d : FormatTree) → k < length formats → divides (get_or formats k d) ≡ true → over formats k < divided formats
over_below [] k d below h = absurd (omega arith)
over_below (f ∷ formats) zero d below h = omega (arith, divided_one f formats h)
over_below (f ∷ formats) (suc k) d below h =
    let later : over formats k < divided formats = over_below formats k d (omega arith) h in
    elim (cases_Bool (divides f)) [
      | inl e ↦ omega (arith, divided_one f (take k formats) e, divided_one f formats e)
      | inr e ↦ omega (arith, divided_none f (take k formats) e, divided_none f formats e)
    ]

-- of two formats that divide the later one takes a later dimension
pub over_grows : (formats : List FormatTree) (j k : ℕ) (d : FormatTree) → j < k → k < length formats → divides (get_or formats j d) ≡ true → over formats j < over formats k
over_grows [] j k d before below h = absurd (omega arith)
over_grows (f ∷ formats) j zero d before below h = absurd (omega arith)
over_grows (f ∷ formats) zero (suc k) d before below h = omega (arith, divided_one f (take k formats) h)
over_grows (f ∷ formats) (suc j) (suc k) d before below h =
    let later : over formats j < over formats k = over_grows formats j k d (omega arith) (omega arith) h in
    elim (cases_Bool (divides f)) [
      | inl e ↦ omega (arith, divided_one f (take j formats) e, divided_one f (take k formats) e)
      | inr e ↦ omega (arith, divided_none f (take j formats) e, divided_none f (take k formats) e)
    ]

-- a dimension is taken by a format
pub record IsTaken (formats : List FormatTree) (e : ℕ) (d : FormatTree) : Type 0 where
  pub place : ℕ
  pub below : place < length formats
  pub is : over formats place ≡ e
  pub divides : divides (get_or formats place d) ≡ true

found_first : (f : FormatTree) (formats : List FormatTree) (e : ℕ) (d : FormatTree) → divides f ≡ true → e < divided (f ∷ formats)
    → ((n : ℕ) → n < divided formats → IsTaken formats n d) → IsTaken (f ∷ formats) e d
found_first f formats zero d is below later = record { place = 0; below = omega arith; is = refl; divides = is }
found_first f formats (suc e) d is below later =
    let r = later e (omega (arith, below, divided_one f formats is)) in
    record { place = suc r.place; below = omega (arith, r.below); is = divided_one f (take r.place formats) is ∙ ap suc r.is; divides = r.divides }

found_later : (f : FormatTree) (formats : List FormatTree) (e : ℕ) (d : FormatTree) → divides f ≡ false → IsTaken formats e d → IsTaken (f ∷ formats) e d
found_later f formats e d is r =
    record { place = suc r.place; below = omega (arith, r.below); is = divided_none f (take r.place formats) is ∙ r.is; divides = r.divides }

pub over_found : (formats : List FormatTree) (e : ℕ) (d : FormatTree) → e < divided formats → IsTaken formats e d
over_found [] e d below = absurd (omega arith)
over_found (f ∷ formats) e d below = elim (cases_Bool (divides f)) [
  | inl is ↦ found_first f formats e d is below (λ n l. over_found formats n d l)
  | inr is ↦ found_later f formats e d is (over_found formats e d (omega (arith, below, divided_none f formats is)))
]

-- as the code counts them
pub over_seen : (formats : List FormatItem) (k : ℕ) → over (map format_tree formats) k ≡ divided (map format_tree (take k formats))
over_seen formats k = ap divided (take-map format_tree k formats)

-- what is asked of one number more
range_push : (a n : ℕ) → range_with_len a (n + 1) ≡ range_with_len a n ++ (a + n) ∷ []
range_push a zero = let e : a ≡ a + 0 = omega arith in ap (λ m. m ∷ []) e
range_push a (suc n) =
    let next : suc n + 1 ≡ suc (n + 1) = omega arith in
    let e : a + 1 + n ≡ a + suc n = omega arith in
    rw next (ap (λ xs. a ∷ xs) (range_push (a + 1) n ∙ ap (λ m. range_with_len (a + 1) n ++ m ∷ []) e))

pub each_ranged_more : (f : ℕ → List MapRefusal) (k : ℕ) (h0 h1 h2 : Option MapRefusal) → h1 ≡ least_with h0 (flat_map f (range_with_len 0 k)) → h2 ≡ least_with h1 (f k)
    → h2 ≡ least_with h0 (flat_map f (range_with_len 0 (k + 1)))
each_ranged_more f k h0 h1 h2 before step =
    let here : 0 + k ≡ k = omega arith in
    step ∙ ap (λ h. least_with h (f k)) before ∙ least_with-append h0 (flat_map f (range_with_len 0 k)) (f k)
    ∙ ap (least_with h0) (ap (λ n. flat_map f (range_with_len 0 k) ++ f n) (sym here) ∙ flat_map_more f [] (range_with_len 0 k) (0 + k) ∙ ap (flat_map f) (sym (range_push 0 k)))

-- a distributee of another number of dimensions
pub not_sized : (dealt : Dealt) (o : Option (List Span)) (spans : List Span) → o ≡ Some spans → (length spans ≡ length dealt.formats → ⊥) → sized_breaches dealt o ≡ []
not_sized dealt o spans is differ =
    ap (sized_breaches dealt) is ∙ elim (cases_Bool (length spans == length dealt.formats)) [
      | inl e ↦ absurd (differ (eqb-true (length spans) (length dealt.formats) e))
      | inr e ↦ ap (λ b. cond b (dealing_breaches dealt spans) []) e
    ]
