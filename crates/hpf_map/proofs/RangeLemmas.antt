-- The least and the greatest of values, one after another.
use Rattle.std.proofs.Common.{◌≡◌, Bool, true, false, cond, ◌||◌, List, [], ◌∷◌, ◌++◌, Some, None, ℤ, refl, sym, ap, ◌∙◌, arith}
use Rattle.std.specs.Prelude.{int_lt}
use Rattle.std.specs.Int.{int_min, int_max}
use Rattle.std.specs.List.{list_any}
use Rattle.std.proofs.lemmas.Int.{ints}
use Rattle.std.proofs.lemmas.List.Folds.{list_any-append}
use Rattle.hpf_map.specs.declared.name.Span.{Span}
use Rattle.hpf_map.specs.Alignments.{is_beyond}
use Rattle.hpf_map.specs.Ranges.{HasRange}

either : (a b c : Bool) → (a ≡ true → c ≡ true) → (b ≡ true → c ≡ true) → (a ≡ false → b ≡ false → c ≡ false) → (a || (b || false)) ≡ c
either true b c h k m = sym (h refl)
either false true c h k m = sym (k refl)
either false false c h k m = sym (m refl refl)

less_below : (x v b : ℤ) → (int_lt x b || (int_lt v b || false)) ≡ int_lt (int_min x v) b
less_below x v b = by (int_lt v x) refl where
  by : (c : Bool) → int_lt v x ≡ c → (int_lt x b || (int_lt v b || false)) ≡ int_lt (cond c v x) b
  by true e = either (int_lt x b) (int_lt v b) (int_lt v b) (λ h. grind (arith, ints, e, h)) (λ h. h) (λ h k. k)
  by false e = either (int_lt x b) (int_lt v b) (int_lt x b) (λ h. h) (λ h. grind (arith, ints, e, h)) (λ h k. h)

more_above : (x v b : ℤ) → (int_lt b x || (int_lt b v || false)) ≡ int_lt b (int_max x v)
more_above x v b = by (int_lt v x) refl where
  by : (c : Bool) → int_lt v x ≡ c → (int_lt b x || (int_lt b v || false)) ≡ int_lt b (cond c x v)
  by true e = either (int_lt b x) (int_lt b v) (int_lt b x) (λ h. h) (λ h. grind (arith, ints, e, h)) (λ h k. h)
  by false e = either (int_lt b x) (int_lt b v) (int_lt b v) (λ h. grind (arith, ints, e, h)) (λ h. h) (λ h k. k)

-- one value more
pub range_more : (values : List ℤ) (range : Span) (v low high : ℤ) → HasRange values (Some range) → low ≡ int_min range.low v → high ≡ int_max range.high v
    → HasRange (values ++ v ∷ []) (Some (record { low = low; high = high }))
range_more values range v low high h is_low is_high = record {
  below = λ b. list_any-append (λ x. int_lt x b) values (v ∷ []) ∙ ap (λ c. c || (int_lt v b || false)) (h.below b) ∙ less_below range.low v b ∙ ap (λ x. int_lt x b) (sym is_low);
  above = λ b. list_any-append (λ x. int_lt b x) values (v ∷ []) ∙ ap (λ c. c || (int_lt b v || false)) (h.above b) ∙ more_above range.high v b ∙ ap (λ x. int_lt b x) (sym is_high);
}

alone : (c : Bool) → (false || (c || false)) ≡ c
alone true = refl
alone false = refl

pub range_first : (values : List ℤ) (v : ℤ) → HasRange values None → HasRange (values ++ v ∷ []) (Some (record { low = v; high = v }))
range_first values v h = record {
  below = λ b. list_any-append (λ x. int_lt x b) values (v ∷ []) ∙ ap (λ c. c || (int_lt v b || false)) (h.below b) ∙ alone (int_lt v b);
  above = λ b. list_any-append (λ x. int_lt b x) values (v ∷ []) ∙ ap (λ c. c || (int_lt b v || false)) (h.above b) ∙ alone (int_lt b v);
}

pub range_none : HasRange [] None
range_none = record { below = λ b. refl; above = λ b. refl }

-- a value is beyond bounds where one is below the lower or above the upper one
either_any : {A : Type 0} (p q : A → Bool) (xs : List A) → (list_any p xs || list_any q xs) ≡ list_any (λ x. p x || q x) xs
either_any p q [] = refl
either_any p q (x ∷ xs) = swapped (p x) (list_any p xs) (q x) (list_any q xs) ∙ ap (λ b. (p x || q x) || b) (either_any p q xs) where
  swapped : (a b c d : Bool) → ((a || b) || (c || d)) ≡ ((a || c) || (b || d))
  swapped true b c d = refl
  swapped false true true d = refl
  swapped false true false d = refl
  swapped false false c d = refl

pub beyond_any : (s : Span) (values : List ℤ) → (list_any (λ v. int_lt v s.low) values || list_any (λ v. int_lt s.high v) values) ≡ list_any (is_beyond s) values
beyond_any s values = either_any (λ v. int_lt v s.low) (λ v. int_lt s.high v) values
