-- All names that statements declare are sound.
use Rattle.std.proofs.Common.{◌≡◌, ◌==◌, ℕ, zero, suc, ◌≤◌, Bool, true, false, cond, not, ◌&&◌, ◌||◌, List, [], ◌∷◌, ◌++◌, length, map, get_or, All, Option, Some, None, ℤ, pos, neg_ℤ, ◌≤ℤ◌, refl, sym, ap, subst, ◌∙◌, arith}
use Rattle.std.specs.Prelude.{IfSome, option_and_then, slice_get, fold, int_lt, int_le, nat_lt, nat_le, is_some}
use Rattle.std.specs.List.{list_any}
use Rattle.std.proofs.lemmas.Int.{ints}
use Rattle.std.proofs.lemmas.Bool.Decides.{nat_tests}
use Rattle.std.proofs.lemmas.List.Elements.{All-cons, All-head, All-tail}
use Rattle.std.proofs.lemmas.List.{length-map}
use Rattle.std.proofs.lemmas.List.Folds.{list_any_at}
use Rattle.hpf_syntax.specs.Plain.{Tree, Number, Name, Neg, Plus, Minus, Times, BoundTree, DeclaredTree, ValueTree, One, Many, ConstantTree, ItemTree, ImplicitNone, Variables, Constants, Processors, Template, Distribute, Align, Shadow, Input, Stage}
use Rattle.hpf_map.specs.declared.given.Given.{Given}
use Rattle.hpf_map.specs.declared.name.Dimensions.{Dimensions}
use Rattle.hpf_map.specs.declared.name.Meaning.{Meaning}
use Rattle.hpf_map.specs.declared.name.Meaning.TheVariants as meaning
use Rattle.hpf_map.specs.declared.name.Name as name
use Rattle.hpf_map.specs.declared.name.Space.{Space}
use Rattle.hpf_map.specs.declared.name.Space.TheVariants as space
use Rattle.hpf_map.specs.declared.name.Span.{Span}
use Rattle.hpf_map.specs.Composed.{near}
use Rattle.hpf_map.specs.Constants.{given_of, constant_meaning, one_given}
use Rattle.hpf_map.specs.Declarations.{names_after, with_declared, with_constant, shaped_name, constant_name, declared_dimensions, own_dimensions, dimensions_of, chosen, inside, no_dimensions, common_limit}
use Rattle.hpf_map.specs.Gathered.{all_of}
use Rattle.hpf_map.specs.Known.{known, is_named, declare, is_full}
use Rattle.hpf_map.specs.Layers.{names_of}
use Rattle.hpf_map.specs.Shapes.{extent, extent_limit, max_array, max_extent, max_bounds, is_too_large, is_oversized, span_within, both, span, shape, low_value}
use Rattle.hpf_map.specs.declared.role.Role.{Role}
use Rattle.hpf_map.specs.Alignments.{no_span}
use Rattle.hpf_map.specs.Spaces.{meaning_shape, fit, shape_of}
use Rattle.hpf_map.specs.Uses.{suits}
use Rattle.hpf_map.specs.Sound.{AreGood, IsSoundSpan, IsSoundShape, IsInRange, IsSoundMeaning, AreSoundNames}
use Rattle.hpf_map.specs.Values.{value, in_range, ranged, combined, constant_value}
use Rattle.hpf_map.proofs.GatherLemmas.{all_of_length, all_of_all}

-- ---- values

-- what holds of each name holds of one that is found
pub found_all : (P : name.Name → Type 0) (word : List ℕ) (names : List name.Name) → All P names → IfSome (known names word) P
unfolding known
found_all P word [] h = tt
found_all P word (n ∷ names) h = by (is_named word n) (found_all P word names (All-tail P n names h)) where
  by : (b : Bool) → IfSome (known names word) P → IfSome (cond b (Some n) (known names word)) P
  by true k = All-head P n names h
  by false k = k

found_sound : (word : List ℕ) (names : List name.Name) → AreSoundNames names → IfSome (known names word) (λ n. IsSoundMeaning n.meaning)
found_sound word names h = found_all (λ n. IsSoundMeaning n.meaning) word names h

-- a value that is in range where there is one
ranged_in : (v : ℤ) → IfSome (ranged v) IsInRange
ranged_in v = by (in_range v) refl where
  by : (b : Bool) → in_range v ≡ b → IfSome (cond b (Some v) None) IsInRange
  by true e = e
  by false e = tt

constant_in : (m : Meaning) → IsSoundMeaning m → IfSome (constant_value m) IsInRange
constant_in meaning.Scalar h = tt
constant_in (meaning.Shaped what dimensions) h = tt
constant_in (meaning.Constant v) h = h
constant_in (meaning.List values) h = tt

name_in : (o : Option name.Name) → IfSome o (λ n. IsSoundMeaning n.meaning) → IfSome (option_and_then (λ n. constant_value n.meaning) o) IsInRange
name_in None h = tt
name_in (Some n) h = constant_in n.meaning h

negated_in : (o : Option ℤ) → IfSome (option_and_then (λ v. ranged (neg_ℤ v)) o) IsInRange
negated_in None = tt
negated_in (Some v) = ranged_in (neg_ℤ v)

combined_in : (op : ℤ → ℤ → ℤ) (a b : Option ℤ) → IfSome (combined op a b) IsInRange
combined_in op None b = tt
combined_in op (Some a) None = tt
combined_in op (Some a) (Some b) = ranged_in (op a b)

value_in : (before : List name.Name) → AreSoundNames before → (e : Tree) → IfSome (value before e) IsInRange
unfolding value
value_in before h (Number at n) = ranged_in (pos n)
value_in before h (Name at word) = name_in (known before word) (found_sound word before h)
value_in before h (Neg at e) = negated_in (value before e)
value_in before h (Plus at a b) = combined_in _ (value before a) (value before b)
value_in before h (Minus at a b) = combined_in _ (value before a) (value before b)
value_in before h (Times at a b) = combined_in _ (value before a) (value before b)

-- ---- shapes

pub first_true : (a b : Bool) → (a && b) ≡ true → a ≡ true
first_true true b h = refl
first_true false b h = h

pub second_true : (a b : Bool) → (a && b) ≡ true → b ≡ true
second_true true b h = h
second_true false b h = absurd cc

record Near (v : ℤ) : Type 0 where
  least : near.low ≤ℤ v
  greatest : v ≤ℤ near.high

range_near : (v : ℤ) → IsInRange v → Near v
unfolding in_range
range_near v h =
    let a : int_le near.low v ≡ true = first_true (int_le near.low v) (int_le v near.high) h in
    let b : int_le v near.high ≡ true = second_true (int_le near.low v) (int_le v near.high) h in
    record { least = omega (arith, ints, a); greatest = omega (arith, ints, b) }

first_false : (a b : Bool) → (a || b) ≡ false → a ≡ false
first_false true b h = h
first_false false b h = refl

second_false : (a b : Bool) → (a || b) ≡ false → b ≡ false
second_false true b h = absurd cc
second_false false b h = h

within_sound : (limit : ℕ) (s : Span) → IsInRange s.low → IsInRange s.high → IfSome (span_within limit s) (IsSoundSpan limit)
within_sound limit s l h = by (int_lt s.high s.low || nat_lt limit (extent s)) refl where
  by : (b : Bool) → (int_lt s.high s.low || nat_lt limit (extent s)) ≡ b → IfSome (cond b None (Some s)) (IsSoundSpan limit)
  by true e = tt
  by false e =
      let order : int_lt s.high s.low ≡ false = first_false (int_lt s.high s.low) (nat_lt limit (extent s)) e in
      let few : nat_lt limit (extent s) ≡ false = second_false (int_lt s.high s.low) (nat_lt limit (extent s)) e in
      let low = range_near s.low l in
      let high = range_near s.high h in
      record {
        sound = record { near = record { least = low.least; greatest = high.greatest }; order = omega (arith, ints, order) };
        extent = grind (arith, nat_tests);
      }

both_sound : (limit : ℕ) (l h : Option ℤ) → IfSome l IsInRange → IfSome h IsInRange → IfSome (option_and_then (span_within limit) (both l h)) (IsSoundSpan limit)
both_sound limit None h p q = tt
both_sound limit (Some l) None p q = tt
both_sound limit (Some l) (Some h) p q = within_sound limit (record { low = l; high = h }) p q

pub one_in : IsInRange (pos 1)
unfolding in_range
one_in = refl

low_in : (before : List name.Name) → AreSoundNames before → (o : Option Tree) → IfSome (low_value before o) IsInRange
low_in before h None = one_in
low_in before h (Some e) = value_in before h e

span_sound : (before : List name.Name) → AreSoundNames before → (limit : ℕ) (b : BoundTree) → IfSome (span before limit b) (IsSoundSpan limit)
unfolding span
span_sound before h limit b =
    both_sound limit (low_value before b.low) (value before b.high) (low_in before h b.low) (value_in before h b.high)

-- a shape of so many bounds
record AreSoundSpans (limit count : ℕ) (spans : List Span) : Type 0 where
  size : length spans ≡ count
  few : count ≤ max_bounds
  each : All (IsSoundSpan limit) spans

of_some : {A : Type 0} (P : A → Type 0) (o : Option A) (x : A) → IfSome o P → o ≡ Some x → P x
of_some P o x h e = subst (λ p. IfSome p P) e h

shape_sound : (before : List name.Name) → AreSoundNames before → (limit : ℕ) (bounds : List BoundTree)
    → IfSome (shape before limit bounds) (AreSoundSpans limit (length bounds))
unfolding shape
shape_sound before h limit bounds = by (nat_le (length bounds) max_bounds) refl where
  some : (o : Option (List Span)) → all_of (map (span before limit) bounds) ≡ o → length bounds ≤ max_bounds → IfSome o (AreSoundSpans limit (length bounds))
  some None e few = tt
  some (Some spans) e few = record {
    size = all_of_length (map (span before limit) bounds) spans e ∙ simp length-map;
    few = few;
    each = all_of_all (IsSoundSpan limit) (span before limit) (λ b s e. of_some (IsSoundSpan limit) (span before limit b) s (span_sound before h limit b) e) bounds spans e;
  }

  by : (b : Bool) → nat_le (length bounds) max_bounds ≡ b → IfSome (cond b (all_of (map (span before limit) bounds)) None) (AreSoundSpans limit (length bounds))
  by true e = some (all_of (map (span before limit) bounds)) refl (grind (arith, nat_tests))
  by false e = tt

-- ---- names

abbrev AreSoundDimensions : ℕ → Dimensions → Type 0
AreSoundDimensions limit d = IfSome d.shape (AreSoundSpans limit d.count)

chosen_sound : (limit : ℕ) (common own : Dimensions) → AreSoundDimensions limit own → ((own.count == 0) ≡ true → AreSoundDimensions limit common)
    → AreSoundDimensions limit (chosen common own)
chosen_sound limit common own h k = by (own.count == 0) refl where
  by : (b : Bool) → (own.count == 0) ≡ b → AreSoundDimensions limit (cond b common own)
  by true e = k e
  by false e = h

shape_of_meaning : (what : Space) (count : ℕ) (o : Option (List Span)) (full : Bool) → IfSome o (AreSoundSpans (extent_limit what) count) → (count == 0) ≡ false
    → IfSome (cond (not (full || is_oversized what o)) o None) (IsSoundShape what count)
shape_of_meaning what count None true h some = tt
shape_of_meaning what count None false h some = tt
shape_of_meaning what count (Some spans) true h some = tt
shape_of_meaning what count (Some spans) false h some = by (is_too_large what spans) refl where
  by : (b : Bool) → is_too_large what spans ≡ b → IfSome (cond (not b) (Some spans) None) (IsSoundShape what count)
  by true e = tt
  by false e = record { size = h.size; some = grind (arith, nat_tests); few = h.few; each = h.each; fits = e }

shaped_sound : (what : Space) (d : Dimensions) (before : List name.Name) (word : List ℕ) → AreSoundDimensions (extent_limit what) d
    → IsSoundMeaning (shaped_name what d before word).meaning
unfolding shaped_name
shaped_sound what d before word h = by (d.count == 0) refl where
  by : (b : Bool) → (d.count == 0) ≡ b
      → IsSoundMeaning (cond b meaning.Scalar (meaning.Shaped what (record { count = d.count; shape = cond (not (is_full before || is_oversized what d.shape)) d.shape None })))
  by true e = tt
  by false e = shape_of_meaning what d.count d.shape (is_full before) h e

push_sound : (names : List name.Name) (n : name.Name) → AreSoundNames names → IsSoundMeaning n.meaning → AreSoundNames (names ++ n ∷ [])
push_sound [] n h k = All-cons (λ m. IsSoundMeaning m.meaning) n [] k h
push_sound (m ∷ names) n h k =
    All-cons (λ m. IsSoundMeaning m.meaning) m (names ++ n ∷ []) (All-head (λ m. IsSoundMeaning m.meaning) m names h)
    (push_sound names n (All-tail (λ m. IsSoundMeaning m.meaning) m names h) k)

declare_sound : (names : List name.Name) (n : name.Name) → AreSoundNames names → IsSoundMeaning n.meaning → AreSoundNames (declare names n)
unfolding declare
declare_sound names n h k = by (is_some (known names n.word)) where
  by : (b : Bool) → AreSoundNames (cond b names (names ++ n ∷ []))
  by true = h
  by false = push_sound names n h k

inside_sound : (what : Space) (before : List name.Name) (d : DeclaredTree) → AreSoundNames before → AreSoundNames (inside what before d)
inside_sound what before d h = push_sound before _ h (shaped_sound what (record { count = length d.shape; shape = None }) before d.name.word tt)

-- common bounds are an array's where some array has none of its own
abbrev Commonly : Space → Dimensions → DeclaredTree → Type 0
Commonly what common d = (length d.shape == 0) ≡ true → AreSoundDimensions (extent_limit what) common

with_declared_sound : (what : Space) (common : Dimensions) (before : List name.Name) (d : DeclaredTree) → AreSoundNames before → Commonly what common d
    → AreSoundNames (with_declared what common before d)
unfolding with_declared declared_dimensions
with_declared_sound what common before d h k =
    declare_sound before _ h
    (shaped_sound what (chosen common (own_dimensions what before d)) before d.name.word
    (chosen_sound (extent_limit what) common (own_dimensions what before d)
    (shape_sound (inside what before d) (inside_sound what before d h) (extent_limit what) d.shape) k))

all_declared_sound : (what : Space) (common : Dimensions) (ds : List DeclaredTree) (before : List name.Name) → AreSoundNames before → All (Commonly what common) ds
    → AreSoundNames (fold (with_declared what common) before ds)
all_declared_sound what common [] before h k = h
all_declared_sound what common (d ∷ ds) before h k =
    all_declared_sound what common ds (with_declared what common before d)
    (with_declared_sound what common before d h (All-head (Commonly what common) d ds k)) (All-tail (Commonly what common) d ds k)

given_in : (before : List name.Name) → AreSoundNames before → (v : ValueTree) → IfSome (one_given (given_of before v)) IsInRange
given_in before h (One e) = value_in before h e
given_in before h (Many es) = tt

meaning_in : (has_shape free : Bool) (shape : Option (List Span)) (what : Given) → IfSome (one_given what) IsInRange → IsSoundMeaning (constant_meaning has_shape free shape what)
meaning_in false true shape what h = h
meaning_in false false shape what h = tt
meaning_in true true shape what h = tt
meaning_in true false shape what h = tt

with_constant_sound : (common : Dimensions) (before : List name.Name) (d : ConstantTree) → AreSoundNames before → AreSoundNames (with_constant common before d)
unfolding with_constant constant_name
with_constant_sound common before d h = declare_sound before _ h (meaning_in _ _ _ (given_of before d.value) (given_in before h d.value))

all_constants_sound : (common : Dimensions) (ds : List ConstantTree) (before : List name.Name) → AreSoundNames before → AreSoundNames (fold (with_constant common) before ds)
all_constants_sound common [] before h = h
all_constants_sound common (d ∷ ds) before h = all_constants_sound common ds (with_constant common before d) (with_constant_sound common before d h)

-- ---- statements

common_sound : (before : List name.Name) (common : List BoundTree) (ds : List DeclaredTree) → AreSoundNames before
    → All (Commonly space.Array (dimensions_of (common_limit ds) before common)) ds
common_sound before common ds h k d below own =
    let some : list_any (λ e. length e.shape == 0) ds ≡ true = list_any_at (λ e. length e.shape == 0) ds k d below own in
    let limit : common_limit ds ≡ max_array = ap (λ b. cond b max_array max_extent) some in
    subst (λ l. IfSome (shape before l common) (AreSoundSpans max_array (length common))) (sym limit) (shape_sound before h max_array common)

none_common : (what : Space) (ds : List DeclaredTree) → All (Commonly what no_dimensions) ds
none_common what ds k d below own = record { size = refl; few = omega arith; each = λ j e l. absurd (omega (arith, l)) }

after_sound : (before : List name.Name) (item : ItemTree) → AreSoundNames before → AreSoundNames (names_after before item)
unfolding names_after
after_sound before (ImplicitNone at) h = h
after_sound before (Variables common names) h =
    all_declared_sound space.Array (dimensions_of (common_limit names) before common) names before h (common_sound before common names h)
after_sound before (Constants common names) h = all_constants_sound (dimensions_of max_extent before common) names before h
after_sound before (Processors names) h = all_declared_sound space.Arrangement no_dimensions names before h (none_common space.Arrangement names)
after_sound before (Template names) h = all_declared_sound space.Template no_dimensions names before h (none_common space.Template names)
after_sound before (Distribute names formats onto) h = h
after_sound before (Align names sources base subs) h = h
after_sound before (Shadow names widths) h = h
after_sound before (Input at name buffers op) h = h
after_sound before (Stage at name permute buffers op) h = h

items_sound : (items : List ItemTree) (before : List name.Name) → AreSoundNames before → AreSoundNames (fold names_after before items)
items_sound [] before h = h
items_sound (item ∷ items) before h = items_sound items (names_after before item) (after_sound before item h)

pub names_of_sound : (items : List ItemTree) → AreSoundNames (names_of items)
unfolding names_of
names_of_sound items = items_sound items [] (λ k d l. absurd (omega (arith, l)))

-- ---- the shapes of names

good : (what : Space) (count : ℕ) (spans : List Span) → IsSoundShape what count spans → AreGood spans
good what count spans h = record {
  some = omega (arith, h.size, h.some);
  few = omega (arith, h.size, h.few);
  sound = λ d l. let s : IsSoundSpan (extent_limit what) (get_or spans d no_span) = h.each d no_span l in s.sound;
  ordered = λ k d l. let s : IsSoundSpan (extent_limit what) (get_or spans k d) = h.each k d l in s.sound.order;
}

meaning_good : (m : Meaning) → IsSoundMeaning m → IfSome (meaning_shape m) AreGood
meaning_good meaning.Scalar h = tt
meaning_good (meaning.Shaped what d) h = some d.shape h where
  some : (o : Option (List Span)) → IfSome o (IsSoundShape what d.count) → IfSome o AreGood
  some None k = tt
  some (Some spans) k = good what d.count spans k
meaning_good (meaning.Constant v) h = tt
meaning_good (meaning.List values) h = tt

pub shape_good : (names : List name.Name) (role : Role) (word : List ℕ) → AreSoundNames names → IfSome (shape_of names role word) AreGood
shape_good names role word h = found (known names word) (found_sound word names h) where
  used : (n : name.Name) (b : Bool) → IsSoundMeaning n.meaning → IfSome (option_and_then (λ m. meaning_shape m.meaning) (cond b (Some n) None)) AreGood
  used n true k = meaning_good n.meaning k
  used n false k = tt

  found : (o : Option name.Name) → IfSome o (λ n. IsSoundMeaning n.meaning)
      → IfSome (option_and_then (λ n. meaning_shape n.meaning) (option_and_then (fit role) o)) AreGood
  found None k = tt
  found (Some n) k = used n (n.free && suits role n.meaning) k

pub place_good : (names : List name.Name) (n : ℕ) → AreSoundNames names → IfSome (option_and_then (λ m. meaning_shape m.meaning) (slice_get names n)) AreGood
place_good [] n h = tt
place_good (m ∷ names) zero h = meaning_good m.meaning (All-head (λ x. IsSoundMeaning x.meaning) m names h)
place_good (m ∷ names) (suc n) h = place_good names n (All-tail (λ x. IsSoundMeaning x.meaning) m names h)
