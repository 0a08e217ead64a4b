-- How arrangements are found by how many bounds they have.
use Rattle.std.proofs.Common.{◌≡◌, ℕ, ◌+◌, ◌-◌, ◌<◌, Bool, true, false, ◌||◌, not, cond, List, [], ◌∷◌, ◌++◌, length, get_or, set, Option, Some, None, refl, sym, ap, ◌∙◌, arith}
use Rattle.std.specs.Prelude.{is_some, ◌==◌, replicate}
use Rattle.std.proofs.lemmas.Bool.{false≢true}
use Rattle.std.specs.Option.{option_or}
use Rattle.std.specs.List.{find, list_any, position_from}
use Rattle.std.proofs.lemmas.List.{get_or-set_same, get_or-set_other, get_or-replicate, length-set}
use Rattle.std.proofs.lemmas.Bool.Decides.{nat_tests}
use Rattle.std.proofs.lemmas.List.Folds.{list_any-append}
use Rattle.hpf_map.specs.declared.arrangements.Arrangements.{Arrangements}
use Rattle.hpf_map.specs.declared.name.Meaning.{Meaning}
use Rattle.hpf_map.specs.declared.name.Meaning.TheVariants as meaning
use Rattle.hpf_map.specs.declared.name.Name.{Name}
use Rattle.hpf_map.specs.declared.name.Space.TheVariants as space
use Rattle.hpf_map.specs.Arrangements.{bounds_of, AreOf}
use Rattle.hpf_map.specs.Distributions.{fits_meaning, fits, is_broken}
use Rattle.hpf_map.proofs.IndexLemmas.{IsFirstAt, first_at, none_at, position_push}

-- ---- a list of names

or_false : (b : Bool) → (b || false) ≡ b
or_false true = refl
or_false false = refl

-- one that may fit is broken, or fits
some_may_fit : {A : Type 0} (p q : A → Bool) (xs : List A) → list_any (λ x. p x || q x) xs ≡ (list_any p xs || is_some (find q xs))
some_may_fit p q [] = refl
some_may_fit p q (x ∷ xs) = by (p x) (q x) (some_may_fit p q xs) where
  by : (b c : Bool) → list_any (λ x. p x || q x) xs ≡ (list_any p xs || is_some (find q xs))
      → ((b || c) || list_any (λ x. p x || q x) xs) ≡ ((b || list_any p xs) || is_some (cond c (Some x) (find q xs)))
  by true c e = refl
  by false false e = e
  by false true e = or (list_any p xs) where
    or : (b : Bool) → true ≡ (b || true)
    or true = refl
    or false = refl

-- nothing fits where none is broken and none of so many bounds is found
pub nothing_is : (names : List Name) (count : ℕ) (b : Bool) (o : Option Name) → b ≡ list_any is_broken names → o ≡ find (fits count) names
    → not (b || is_some o) ≡ not (list_any (λ n. is_broken n || fits count n) names)
nothing_is names count b o e f =
    ap not (ap (λ x. x || is_some o) e ∙ ap (λ p. list_any is_broken names || is_some p) f ∙ sym (some_may_fit is_broken (fits count) names))

or_none : {A : Type 0} (o : Option A) → option_or o None ≡ o
or_none None = refl
or_none (Some x) = refl

kept : (names : List Name) (name : Name) (c : ℕ) → fits c name ≡ false → position_from (fits c) 0 names ≡ position_from (fits c) 0 (names ++ name ∷ [])
kept names name c misses =
    sym (position_push (fits c) 0 names name ∙ ap (λ b. option_or (position_from (fits c) 0 names) (cond b (Some (0 + length names)) None)) misses ∙ or_none (position_from (fits c) 0 names))

added : (names : List Name) (name : Name) (c : ℕ) → fits c name ≡ true
    → option_or (position_from (fits c) 0 names) (Some (length names)) ≡ position_from (fits c) 0 (names ++ name ∷ [])
added names name c meets =
    let z : length names ≡ 0 + length names = omega arith in
    ap (λ n. option_or (position_from (fits c) 0 names) (Some n)) z
    ∙ sym (position_push (fits c) 0 names name ∙ ap (λ b. option_or (position_from (fits c) 0 names) (cond b (Some (0 + length names)) None)) meets)

broken_push : (names : List Name) (name : Name) (b c : Bool) → b ≡ list_any is_broken names → c ≡ is_broken name → (b || c) ≡ list_any is_broken (names ++ name ∷ [])
broken_push names name b c e f =
    ap (λ x. x || c) e ∙ ap (λ x. list_any is_broken names || x) (f ∙ sym (or_false (is_broken name))) ∙ sym (list_any-append is_broken names (name ∷ []))

-- ---- what is found of them, once a name more is there

abbrev is_bound : ℕ → Option ℕ → Bool
is_bound c None = false
is_bound c (Some n) = n == c

fits_bounds : (c : ℕ) (m : Meaning) → fits_meaning c m ≡ is_bound c (bounds_of m)
fits_bounds c meaning.Scalar = refl
fits_bounds c (meaning.Shaped space.Array d) = refl
fits_bounds c (meaning.Shaped space.Template d) = refl
fits_bounds c (meaning.Shaped space.Arrangement d) = refl
fits_bounds c (meaning.Constant v) = refl
fits_bounds c (meaning.List vs) = refl

pub add_other : (names : List Name) (name : Name) (a : Arrangements) (o : Option ℕ) (b : Bool) → o ≡ bounds_of name.meaning → ((c : ℕ) → c < 8 → is_bound c o ≡ false)
    → b ≡ is_broken name → AreOf names a → AreOf (names ++ name ∷ []) (record { first = a.first; broken = a.broken || b })
add_other names name a o b is other broken h = record {
  size = h.size;
  first = λ c below. h.first c below ∙ kept names name c (fits_bounds c name.meaning ∙ ap (is_bound c) (sym is) ∙ other c below);
  broken = broken_push names name a.broken b h.broken broken;
}

pub add_some : (names : List Name) (name : Name) (a : Arrangements) (n place : ℕ) (v : Option ℕ) (b : Bool) → Some n ≡ bounds_of name.meaning → n < 8 → place ≡ length names
    → v ≡ option_or (get_or a.first n None) (Some place) → b ≡ is_broken name → AreOf names a → AreOf (names ++ name ∷ []) (record { first = set a.first n v; broken = a.broken || b })
add_some names name a n place v b is below at v_is broken h = record {
  size = length-set a.first n v ∙ h.size;
  first = λ c small. by c small (n == c) refl;
  broken = broken_push names name a.broken b h.broken broken;
} where
  by : (c : ℕ) → c < 8 → (t : Bool) → (n == c) ≡ t → get_or (set a.first n v) c None ≡ position_from (fits c) 0 (names ++ name ∷ [])
  by c small true e =
      let same : c ≡ n = grind (arith, nat_tests, e) in
      let meets : fits c name ≡ true = fits_bounds c name.meaning ∙ ap (is_bound c) (sym is) ∙ e in
      ap (λ k. get_or (set a.first n v) k None) same
      ∙ get_or-set_same a.first n v None (let size = h.size in omega (arith, size, below))
      ∙ v_is ∙ ap (λ o. option_or o (Some place)) (ap (λ k. get_or a.first k None) (sym same) ∙ h.first c small)
      ∙ ap (λ k. option_or (position_from (fits c) 0 names) (Some k)) at
      ∙ added names name c meets
  by c small false e =
      let misses : fits c name ≡ false = fits_bounds c name.meaning ∙ ap (is_bound c) (sym is) ∙ e in
      get_or-set_other a.first n c v None (λ same. absurd (let t : (n == c) ≡ true = grind (arith, nat_tests, same) in false≢true (sym e ∙ t)))
      ∙ h.first c small ∙ kept names name c misses

-- ---- the first that fits

pub first_there : (names : List Name) (a : Arrangements) (c p : ℕ) → AreOf names a → c < 8 → Some p ≡ get_or a.first c None → IsFirstAt (fits c) 0 names p
first_there names a c p h small is = first_at (fits c) 0 names p (sym (is ∙ h.first c small))

pub first_found : (names : List Name) (a : Arrangements) (c p : ℕ) (d : Name) → AreOf names a → c < 8 → Some p ≡ get_or a.first c None → Some (get_or names p d) ≡ find (fits c) names
first_found names a c p d h small is =
    let f = first_there names a c p h small is in
    let z : p - 0 ≡ p = omega arith in
    sym (f.first d ∙ ap (λ n. Some (get_or names n d)) z)

pub none_found : (names : List Name) (a : Arrangements) (c : ℕ) → AreOf names a → c < 8 → None ≡ get_or a.first c None → None ≡ find (fits c) names
none_found names a c h small is = sym (none_at (fits c) 0 names (sym (is ∙ h.first c small)))

pub none_yet : (a : Arrangements) → a.first ≡ replicate 8 None → a.broken ≡ false → AreOf [] a
none_yet a first broken = record {
  size = ap length first;
  first = λ c small. ap (λ l. get_or l c None) first ∙ get_or-replicate 8 c None None small;
  broken = broken;
}
