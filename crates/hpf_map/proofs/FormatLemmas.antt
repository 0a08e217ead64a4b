-- Where no breach speaks of a format, what it asks for is met.
use Rattle.std.proofs.Common.{◌≡◌, ◌==◌, ℕ, ◌-◌, ◌*◌, ◌^◌, ◌<◌, ◌≤◌, Bool, true, false, not, ◌&&◌, ◌||◌, List, [], ◌∷◌, ◌++◌, length, map, get_or, All, Option, Some, None, ℤ, pos, negsuc, neg_ℤ, ◌*ℤ◌, refl, sym, ap, ◌∙◌, arith, eq-eqb}
use Rattle.std.specs.Prelude.{option_map, int_lt, int_le, nat_lt, is_some}
use Rattle.std.specs.List.{list_any, sum}
use Rattle.std.proofs.lemmas.Bool.{false≢true, eqb-true}
use Rattle.std.proofs.lemmas.Bool.Decides.{nat_tests}
use Rattle.std.proofs.lemmas.Int.{ints}
use Rattle.std.proofs.lemmas.List.{length-map}
use Rattle.std.proofs.lemmas.List.Elements.{All-nil, All-cons, All-map}
use Rattle.std.proofs.Math.IntN.{pos-*ℤ-pos}
use Rattle.hpf_num.specs.Run.{or_zero}
use Rattle.hpf_dist.specs.Axis.{before}
use Rattle.hpf_dist.specs.declared.format.Format.TheVariants as deals
use Rattle.hpf_syntax.specs.declared.tree.At.{At}
use Rattle.hpf_syntax.specs.Plain.{FormatTree, Star, Block, Cyclic, GenBlock, Indirect}
use Rattle.hpf_map.specs.declared.constraint.Constraint.TheVariants.{BlockTooSmall, WidthZero, LengthCount, NegativeLength, LengthSum, PlaceCount, PlaceValue}
use Rattle.hpf_map.specs.declared.name.Name.{Name}
use Rattle.hpf_map.specs.declared.name.Span.{Span}
use Rattle.hpf_map.specs.Alignments.{is_beyond}
use Rattle.hpf_map.specs.Constraint.{breach_if}
use Rattle.hpf_map.specs.Cuts.{IsMet, MeetsAll}
use Rattle.hpf_map.specs.Formats.{list_of, has_no_position, falls_short, differs, has_negative, lengths_fall_short, has_stray, condition_breaches, format_of}
use Rattle.hpf_map.specs.Shapes.{extent}
use Rattle.hpf_map.specs.Sound.{IsInRange}
use Rattle.hpf_map.specs.Values.{greatest, in_range}
use Rattle.hpf_map.proofs.EmptyLemmas.{first_empty, others_empty, breach_if_none}
use Rattle.hpf_map.proofs.FreeLemmas.{HasValue}
use Rattle.hpf_map.proofs.SoundLemmas.{second_true}

-- ---- widths

in_limits : (v : ℤ) → IsInRange v → or_zero v ≤ 2 ^ 31 - 1
unfolding in_range
in_limits (pos n) h =
    let high : int_le (pos n) (pos greatest) ≡ true = second_true (int_le (neg_ℤ (pos greatest)) (pos n)) (int_le (pos n) (pos greatest)) h in
    omega (arith, ints, high)
in_limits (negsuc n) h = omega arith

-- a width that isn't below 1
some_position : (v : ℤ) → has_no_position (Some v) ≡ false → 1 ≤ or_zero v
some_position (pos n) h = omega (arith, ints, h)
some_position (negsuc n) h = absurd (omega (arith, ints, h))

at_least : (v : ℤ) → has_no_position (Some v) ≡ false → int_le (pos 1) v ≡ true
at_least v h = grind (arith, ints, h)

long_enough : (v : ℤ) (d n : ℕ) → 1 ≤ or_zero v → int_lt (v *ℤ pos n) (pos d) ≡ false → d ≤ or_zero v * n
long_enough (pos m) d n some h = omega (arith, ints, h, pos-*ℤ-pos m n)
long_enough (negsuc m) d n some h = absurd (omega (arith, some))

later_false : (a b : Bool) → a ≡ true → (a && b) ≡ false → b ≡ false
later_false true b e h = h
later_false false b e h = absurd cc

block_met : (v : ℤ) (d : ℕ) (p : Span) → IsInRange v → has_no_position (Some v) ≡ false → falls_short (Some v) (Some d) (Some p) ≡ false
    → IsMet d (extent p) (Some (deals.Block (or_zero v)))
block_met v d p range some few =
    let one : 1 ≤ or_zero v = some_position v some in
    (in_limits v range, record { some = one; enough = long_enough v d (extent p) one (later_false (int_le (pos 1) v) _ (at_least v some) few) })

-- ---- lists

same_number : (n k : ℕ) → not (n == k) ≡ false → n ≡ k
same_number n k h = eqb-true n k (turned (n == k) h) where
  turned : (b : Bool) → not b ≡ false → b ≡ true
  turned true h = refl
  turned false h = sym h

last_false : (a b c : Bool) → a ≡ true → b ≡ true → (a && b && c) ≡ false → c ≡ false
last_false true true c e f h = h
last_false true false c e f h = absurd cc
last_false false b c e f h = absurd cc

lengths_met : (values : List ℤ) (d : ℕ) (p : Span) → differs (Some values) (Some (extent p)) ≡ false → has_negative (Some values) ≡ false
    → lengths_fall_short (Some values) (Some d) (Some p) ≡ false → IsMet d (extent p) (Some (deals.GenBlock (map or_zero values)))
lengths_met values d p count negative few =
    let same : length values ≡ extent p = same_number (length values) (extent p) count in
    let long : nat_lt (sum (map or_zero values)) d ≡ false = last_false (length values == extent p) (not (has_negative (Some values))) _ (eq-eqb (length values) (extent p) same) (ap not negative) few in
    (tt, record { each = length-map values or_zero ∙ same; enough = grind (arith, nat_tests) })

first_false : (a b : Bool) → (a || b) ≡ false → a ≡ false
first_false true b h = h
first_false false b h = refl

other_false : (a b : Bool) → (a || b) ≡ false → b ≡ false
other_false true b h = absurd cc
other_false false b h = h

none_any : {A : Type 0} (p : A → Bool) (xs : List A) → list_any p xs ≡ false → All (λ x. p x ≡ false) xs
none_any p [] h = All-nil (λ x. p x ≡ false)
none_any p (x ∷ xs) h = All-cons (λ y. p y ≡ false) x xs (first_false (p x) (list_any p xs) h) (none_any p xs (other_false (p x) (list_any p xs) h))

inside_before : (p : Span) (v : ℤ) → is_beyond p v ≡ false → before p.low v < extent p
inside_before p v h =
    let low : int_lt v p.low ≡ false = first_false (int_lt v p.low) (int_lt p.high v) h in
    let high : int_lt p.high v ≡ false = other_false (int_lt v p.low) (int_lt p.high v) h in
    omega (arith, ints, low, high)

places_met : (values : List ℤ) (d : ℕ) (p : Span) → differs (Some values) (Some d) ≡ false → has_stray (Some values) (Some p) ≡ false
    → IsMet d (extent p) (Some (deals.Indirect (map (before p.low) values)))
places_met values d p count stray =
    let inside = none_any (is_beyond p) values stray in (
      tt,
      record {
        each = length-map values (before p.low) ∙ same_number (length values) d count;
        below = All-map (λ (place : ℕ). place < extent p) (before p.low) values (λ k e below. inside_before p (get_or values k e) (inside k e below));
      },
    )

lengths_of : (o : Option (List ℤ)) (at : At) (d : ℕ) (p : Span) → is_some o ≡ true
    → breach_if (differs o (Some (extent p))) LengthCount at ++ breach_if (has_negative o) NegativeLength at ++ breach_if (lengths_fall_short o (Some d) (Some p)) LengthSum at ≡ []
    → IsMet d (extent p) (option_map (λ values. deals.GenBlock (map or_zero values)) o)
lengths_of None at d p some h = absurd (false≢true some)
lengths_of (Some values) at d p some h =
    lengths_met values d p (breach_if_none _ LengthCount at (first_empty _ _ (first_empty _ _ h))) (breach_if_none _ NegativeLength at (others_empty _ _ (first_empty _ _ h)))
    (breach_if_none _ LengthSum at (others_empty _ _ h))

places_of : (o : Option (List ℤ)) (at : At) (d : ℕ) (p : Span) → is_some o ≡ true
    → breach_if (differs o (Some d)) PlaceCount at ++ breach_if (has_stray o (Some p)) PlaceValue at ≡ []
    → IsMet d (extent p) (option_map (λ values. deals.Indirect (map (before p.low) values)) o)
places_of None at d p some h = absurd (false≢true some)
places_of (Some values) at d p some h =
    places_met values d p (breach_if_none _ PlaceCount at (first_empty _ _ h)) (breach_if_none _ PlaceValue at (others_empty _ _ h))

-- ---- formats

-- the value of a width that is written is there
abbrev pub HasWidth : FormatTree → Option ℤ → Type 0
HasWidth (Star at) w = Unit {0}
HasWidth (Block at None) w = Unit {0}
HasWidth (Block at (Some e)) w = HasValue w
HasWidth (Cyclic at None) w = Unit {0}
HasWidth (Cyclic at (Some e)) w = HasValue w
HasWidth (GenBlock at lengths) w = Unit {0}
HasWidth (Indirect at places) w = Unit {0}

-- and so is the list of a constant
abbrev pub HasList : List Name → FormatTree → Type 0
HasList names (Star at) = Unit {0}
HasList names (Block at e) = Unit {0}
HasList names (Cyclic at e) = Unit {0}
HasList names (GenBlock at lengths) = is_some (list_of names lengths.word) ≡ true
HasList names (Indirect at places) = is_some (list_of names places.word) ≡ true

pub format_met : (names : List Name) (tree : FormatTree) (w : Option ℤ) (d : ℕ) (p : Span) → HasWidth tree w → HasList names tree
    → condition_breaches names tree w (Some d) (Some p) ≡ [] → MeetsAll tree d (extent p) (format_of names tree w d p)
unfolding condition_breaches format_of
format_met names (Star at) w d p width list none = tt
format_met names (Block at None) w d p width list none = tt
format_met names (Block at (Some e)) None d p width list none = absurd width
format_met names (Block at (Some e)) (Some v) d p width list none =
    block_met v d p width (breach_if_none _ WidthZero at (first_empty _ _ none)) (breach_if_none _ BlockTooSmall at (others_empty _ _ none))
format_met names (Cyclic at None) w d p width list none = (omega arith, omega arith)
format_met names (Cyclic at (Some e)) None d p width list none = absurd width
format_met names (Cyclic at (Some e)) (Some v) d p width list none = (in_limits v width, some_position v (breach_if_none _ WidthZero at none))
format_met names (GenBlock at lengths) w d p width list none = lengths_of (list_of names lengths.word) at d p list none
format_met names (Indirect at places) w d p width list none = places_of (list_of names places.word) at d p list none
