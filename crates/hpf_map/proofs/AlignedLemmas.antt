-- The images that an ALIGN without a breach says are as images in a base have to be.
use Rattle.std.proofs.Common.{◌≡◌, ℕ, zero, suc, ◌+◌, ◌-◌, ◌*◌, ◌^◌, ◌<◌, ◌≤◌, Bool, true, false, cond, ◌&&◌, ◌||◌, List, [], ◌∷◌, length, map, get_or, All, Option, Some, None, ℤ, pos, negsuc, ◌+ℤ◌, ◌-ℤ◌, ◌*ℤ◌, ◌≤ℤ◌, unsigned_abs, arith, inl, inr, sym, ap, ◌∙◌, subst, refl}
use Rattle.std.specs.Prelude.{Contains, IfSome, slice_get, replicate, int_lt, int_le, unwrap_or, ◌⊎◌}
use Rattle.std.specs.List.{list_any, range_with_len}
use Rattle.std.specs.Ordering.{nat_cmp, is_eq}
use Rattle.std.specs.Cmp.{Equal-is}
use Rattle.std.specs.Cmp.Lexicographic.{slice_cmp}
use Rattle.std.specs.FinSet.{slice_cmp-IsAntisymmetric, nat_cmp-IsAntisymmetric}
use Rattle.std.proofs.lemmas.Bool.{false≢true, eqb-true}
use Rattle.std.proofs.lemmas.Int.{ints, unsigned_abs-mul}
use Rattle.std.proofs.lemmas.Nat.{mul-le}
use Rattle.std.proofs.lemmas.List.{length-replicate}
use Rattle.std.proofs.lemmas.List.Elements.{All-head, All-tail, All-replicate}
use Rattle.std.proofs.lemmas.List.Folds.{list_any_at}
use Rattle.std.proofs.lemmas.List.FromFn.{length-range_with_len, get_or-range_with_len}
use lib.IntN.{*ℤ-one}
use Rattle.hpf_dist.specs.Spread.{spread}
use Rattle.hpf_num.specs.declared.run.Run.{Run}
use Rattle.hpf_num.specs.Run.{or_zero, extent as run_extent, integers, LiesWithin}
use Rattle.hpf_own.specs.Image.{positions, subscript as at_dimension}
use Rattle.hpf_own.specs.Mapping.{follows, FollowsBelow, HasSmallCoefficients, HasSome}
use Rattle.hpf_own.specs.Space.{indices, LiesIn}
use Rattle.hpf_own.specs.declared.image.Image.{Image}
use Rattle.hpf_own.specs.declared.image.Image.TheVariants.{Along, Fixed, Spread}
use Rattle.hpf_syntax.specs.declared.tree.SourceItem.{SourceItem}
use Rattle.hpf_syntax.specs.declared.tree.SourceItem.TheVariants as source
use Rattle.hpf_syntax.specs.Plain.{SubTree}
use Rattle.hpf_map.specs.declared.name.Span.{Span}
use Rattle.hpf_map.specs.declared.subscript.Subscript.{Subscript}
use Rattle.hpf_map.specs.declared.subscript.Subscript.TheVariants as subscript
use Rattle.hpf_map.specs.Alignments.{colons_from, colons, dummy_from, dummy_dimension, whole_dimension, first, step, matches, triplet_image, any_image, no_span, colons_left, at_end, in_front, image_in, arranged, written_subscripts, is_beyond, strays, strays_in_some, is_outside}
use Rattle.hpf_map.specs.Composed.{no_image, IsIn, near, IsSound, AreSound, AreAligned}
use Rattle.hpf_map.specs.Shapes.{extent}
use Rattle.hpf_map.specs.Sound.{AreGood, IsInRange}
use Rattle.hpf_map.specs.Spaces.{run_of, counts_agree}
use Rattle.hpf_map.specs.Uses.{is_dummy, dummies}
use Rattle.hpf_map.specs.Values.{in_range}
use Rattle.hpf_map.proofs.ChoiceLemmas.{IsChoice, choice_in, contains_here, contains_later, contains_cases, contains_none, contains_map, contains_from_map, contains_only}
use Rattle.hpf_map.specs.Fit.{IsFit, AreApart, AreFit}
use Rattle.hpf_map.proofs.MoveLemmas.{near_lower}

-- ---- numbers

both_first : (a b : Bool) → (a && b) ≡ true → a ≡ true
both_first true b h = refl
both_first false b h = h

both_second : (a b : Bool) → (a && b) ≡ true → b ≡ true
both_second true b h = h
both_second false b h = absurd cc

either_first : (a b : Bool) → (a || b) ≡ false → a ≡ false
either_first true b h = h
either_first false b h = refl

either_second : (a b : Bool) → (a || b) ≡ false → b ≡ false
either_second true b h = absurd cc
either_second false b h = h

range_small : (v : ℤ) → IsInRange v → unsigned_abs v ≤ 2 ^ 31 - 1
unfolding in_range
range_small v h =
    let least : int_le near.low v ≡ true = both_first (int_le near.low v) (int_le v near.high) h in
    let greatest : int_le v near.high ≡ true = both_second (int_le near.low v) (int_le v near.high) h in
    omega (arith, ints, least, greatest)

-- what is written or stands for it
written_small : (o : Option ℤ) (v : ℤ) → IfSome o IsInRange → unsigned_abs v ≤ 2 ^ 31 - 1 → unsigned_abs (unwrap_or o v) ≤ 2 ^ 31 - 1
written_small None v h k = k
written_small (Some u) v h k = range_small u h

one_small : unsigned_abs (pos 1) ≤ 2 ^ 31 - 1
one_small = omega (arith, ints)

product_small : (a x : ℤ) → unsigned_abs a ≤ 2 ^ 31 - 1 → unsigned_abs x ≤ 2 ^ 31 - 1 → unsigned_abs (a *ℤ x) ≤ (2 ^ 31 - 1) * (2 ^ 31 - 1)
product_small a x h k = rw (unsigned_abs-mul a x) (mul-le (unsigned_abs a) (unsigned_abs x) (2 ^ 31 - 1) (2 ^ 31 - 1) h k)

difference_small : (u p : ℤ) → unsigned_abs u ≤ 2 ^ 31 - 1 → unsigned_abs p ≤ (2 ^ 31 - 1) * (2 ^ 31 - 1) → unsigned_abs (u -ℤ p) ≤ 2 ^ 62
difference_small u p h k = omega (arith, ints, h, k)

low_small : (s : Span) → IsSound s → unsigned_abs s.low ≤ 2 ^ 31 - 1
low_small s h = near_lower s.low s.high h.near.least h.order h.near.greatest

constant_small : (v : ℤ) → unsigned_abs v ≤ 2 ^ 31 - 1 → unsigned_abs v ≤ 2 ^ 62
constant_small v h = omega (arith, h)

-- ---- numbers of dimensions

-- so many from here on
record IsFrom (d n e : ℕ) : Type 0 where
  least : d ≤ e
  most : e < d + n

-- so many more from one before
one_before : (d n e : ℕ) → IsFrom (d + 1) n e → IsFrom d (suc n) e
one_before d n e h = let least = h.least in let most = h.most in record { least = omega arith; most = omega arith }

range_from : (d n e : ℕ) → Contains (range_with_len d n) e → IsFrom d n e
range_from d zero e has = absurd (contains_none e has)
range_from d (suc n) e has = elim (contains_cases d (range_with_len (d + 1) n) e has) [
  | inl is ↦ record { least = omega (arith, is); most = omega (arith, is) }
  | inr later ↦ one_before d n e (range_from (d + 1) n e later)
]

range_has : (n k : ℕ) → k < n → Contains (range_with_len 0 n) k
range_has n k h = (k, omega (arith, length-range_with_len 0 n, h), get_or-range_with_len 0 n k k h ∙ omega arith)

-- none stands twice
abbrev Distinct : List ℕ → Type 0
Distinct [] = Unit {0}
Distinct (d ∷ ds) = (Contains ds d → ⊥) × Distinct ds

range_distinct : (d n : ℕ) → Distinct (range_with_len d n)
range_distinct d zero = tt
range_distinct d (suc n) =
    (λ has. let h = range_from (d + 1) n d has in let least = h.least in absurd (omega arith), range_distinct (d + 1) n)

-- ---- sources

colons_come_from : (d : ℕ) (sources : List SourceItem) (e : ℕ) → Contains (colons_from d sources) e → IsFrom d (length sources) e
colons_come_from d [] e has = absurd (contains_none e has)
colons_come_from d (source.Colon at ∷ sources) e has = elim (contains_cases d (colons_from (d + 1) sources) e has) [
  | inl is ↦ record { least = omega (arith, is); most = omega (arith, is) }
  | inr later ↦ one_before d (length sources) e (colons_come_from (d + 1) sources e later)
]
colons_come_from d (source.Star at ∷ sources) e has = one_before d (length sources) e (colons_come_from (d + 1) sources e has)
colons_come_from d (source.Dummy dummy ∷ sources) e has = one_before d (length sources) e (colons_come_from (d + 1) sources e has)

colons_distinct : (d : ℕ) (sources : List SourceItem) → Distinct (colons_from d sources)
colons_distinct d [] = tt
colons_distinct d (source.Colon at ∷ sources) =
    (λ has. let h = colons_come_from (d + 1) sources d has in let least = h.least in absurd (omega arith), colons_distinct (d + 1) sources)
colons_distinct d (source.Star at ∷ sources) = colons_distinct (d + 1) sources
colons_distinct d (source.Dummy dummy ∷ sources) = colons_distinct (d + 1) sources

dummy_comes_from : (d : ℕ) (sources : List SourceItem) (word : List ℕ) → list_any (is_dummy word) sources ≡ true → IsFrom d (length sources) (dummy_from d sources word)
dummy_comes_from d [] word h = absurd cc
dummy_comes_from d (item ∷ sources) word h = by (is_dummy word item) h (dummy_comes_from (d + 1) sources word) where
  by : (b : Bool) → (b || list_any (is_dummy word) sources) ≡ true
      → (list_any (is_dummy word) sources ≡ true → IsFrom (d + 1) (length sources) (dummy_from (d + 1) sources word))
      → IsFrom d (suc (length sources)) (cond b d (dummy_from (d + 1) sources word))
  by true k later = record { least = omega arith; most = omega arith }
  by false k later = one_before d (length sources) (dummy_from (d + 1) sources word) (later k)

same_words : (word other : List ℕ) → is_eq (slice_cmp nat_cmp word other) ≡ true → word ≡ other
same_words word other h = slice_cmp-IsAntisymmetric nat_cmp-IsAntisymmetric word other ((Equal-is (slice_cmp nat_cmp word other)).0 h)

-- a source is the dummy of one word
one_word : (word other : List ℕ) (item : SourceItem) → is_dummy word item ≡ true → is_dummy other item ≡ true → word ≡ other
one_word word other (source.Colon at) h k = absurd (false≢true h)
one_word word other (source.Star at) h k = absurd (false≢true h)
one_word word other (source.Dummy dummy) h k = same_words word dummy.word h ∙ sym (same_words other dummy.word k)

one_dimension : (d : ℕ) (sources : List SourceItem) (word other : List ℕ) → list_any (is_dummy word) sources ≡ true → list_any (is_dummy other) sources ≡ true
    → dummy_from d sources word ≡ dummy_from d sources other → word ≡ other
one_dimension d [] word other h k same = absurd (false≢true h)
one_dimension d (item ∷ sources) word other h k same =
    by (is_dummy word item) (is_dummy other item) refl refl h k same (one_dimension (d + 1) sources word other) where
      by : (b c : Bool) → is_dummy word item ≡ b → is_dummy other item ≡ c
          → (b || list_any (is_dummy word) sources) ≡ true → (c || list_any (is_dummy other) sources) ≡ true
          → cond b d (dummy_from (d + 1) sources word) ≡ cond c d (dummy_from (d + 1) sources other)
          → (list_any (is_dummy word) sources ≡ true → list_any (is_dummy other) sources ≡ true → dummy_from (d + 1) sources word ≡ dummy_from (d + 1) sources other → word ≡ other)
          → word ≡ other
      by true true e f h k same later = one_word word other item e f
      by true false e f h k same later = let from = dummy_comes_from (d + 1) sources other k in let least = from.least in absurd (omega (arith, same))
      by false true e f h k same later = let from = dummy_comes_from (d + 1) sources word h in let least = from.least in absurd (omega (arith, same))
      by false false e f h k same later = later h k same

-- a dummy's dimension is none of the `:` sources
no_colon : (d : ℕ) (sources : List SourceItem) (word : List ℕ) → list_any (is_dummy word) sources ≡ true → Contains (colons_from d sources) (dummy_from d sources word) → ⊥
no_colon d [] word h has = contains_none _ has
no_colon d (source.Colon at ∷ sources) word h has = elim (contains_cases d (colons_from (d + 1) sources) (dummy_from (d + 1) sources word) has) [
  | inl is ↦ let from = dummy_comes_from (d + 1) sources word h in let least = from.least in absurd (omega (arith, is))
  | inr later ↦ no_colon (d + 1) sources word h later
]
no_colon d (source.Star at ∷ sources) word h has = no_colon (d + 1) sources word h has
no_colon d (source.Dummy dummy ∷ sources) word h has = by (is_eq (slice_cmp nat_cmp word dummy.word)) h has (no_colon (d + 1) sources word) where
  by : (b : Bool) → (b || list_any (is_dummy word) sources) ≡ true → Contains (colons_from (d + 1) sources) (cond b d (dummy_from (d + 1) sources word))
      → (list_any (is_dummy word) sources ≡ true → Contains (colons_from (d + 1) sources) (dummy_from (d + 1) sources word) → ⊥) → ⊥
  by true h has later = let from = colons_come_from (d + 1) sources d has in let least = from.least in absurd (omega arith)
  by false h has later = later h has

-- ---- the same where no sources are written

-- the `:` sources of an array of this rank, and the dimensions of dummies
record AreColons (rank : ℕ) (sources : Option (List SourceItem)) : Type 0 where
  distinct : Distinct (colons rank sources)
  below : (d : ℕ) → Contains (colons rank sources) d → d < rank
  apart : (word : List ℕ) → dummies sources word ≡ true → Contains (colons rank sources) (dummy_dimension sources word) → ⊥
  dummy : (word : List ℕ) → dummies sources word ≡ true → dummy_dimension sources word < rank
  one : (word other : List ℕ) → dummies sources word ≡ true → dummies sources other ≡ true → dummy_dimension sources word ≡ dummy_dimension sources other → word ≡ other

are_colons : (array : List Span) (sources : Option (List SourceItem)) → counts_agree sources array ≡ true → AreColons (length array) sources
are_colons array None agree = record {
  distinct = range_distinct 0 (length array);
  below = λ d has. let from = range_from 0 (length array) d has in let most = from.most in omega arith;
  apart = λ word is has. absurd (false≢true is);
  dummy = λ word is. absurd (false≢true is);
  one = λ word other is is_other same. absurd (false≢true is);
}
are_colons array (Some sources) agree =
    let many : length sources ≡ length array = eqb-true (length sources) (length array) agree in
    record {
      distinct = colons_distinct 0 sources;
      below = λ d has. let from = colons_come_from 0 sources d has in let most = from.most in omega (arith, many);
      apart = λ word is has. no_colon 0 sources word is has;
      dummy = λ word is. let from = dummy_comes_from 0 sources word is in let most = from.most in omega (arith, many);
      one = λ word other is is_other same. one_dimension 0 sources word other is is_other same;
    }

-- ---- one image after another

-- the first image and the others
record Fronted (o : Option Image) (others : Option (List Image)) (images : List Image) : Type 0 where
  image : Image
  rest : List Image
  here : o ≡ Some image
  later : others ≡ Some rest
  whole : image ∷ rest ≡ images

fronted : (o : Option Image) (others : Option (List Image)) (images : List Image) → in_front o others ≡ Some images → Fronted o others images
fronted None others images h = absurd cc
fronted (Some image) None images h = absurd cc
fronted (Some image) (Some rest) images h = record { image = image; rest = rest; here = refl; later = refl; whole = cc }

at_end_none : (ds : List ℕ) (images : List Image) → at_end ds ≡ Some images → [] ≡ images
at_end_none [] images h = cc
at_end_none (d ∷ ds) images h = absurd cc

left_has : (ds : List ℕ) (sub : Subscript) (d : ℕ) → Contains (colons_left ds sub) d → Contains ds d
left_has ds subscript.Any d has = has
left_has ds (subscript.Linear dummy a b) d has = has
left_has [] (subscript.Triplet low high stride) d has = absurd (contains_none d has)
left_has (e ∷ ds) (subscript.Triplet low high stride) d has = contains_later e ds d has

left_distinct : (ds : List ℕ) (sub : Subscript) → Distinct ds → Distinct (colons_left ds sub)
left_distinct ds subscript.Any h = h
left_distinct ds (subscript.Linear dummy a b) h = h
left_distinct [] (subscript.Triplet low high stride) h = tt
left_distinct (e ∷ ds) (subscript.Triplet low high stride) h = h.1

taken : (b : Bool) (x image : Image) → cond b (Some x) None ≡ Some image → x ≡ image
taken true x image h = cc
taken false x image h = absurd cc

-- an image that is spread is so over a whole dimension
abbrev SpreadsOver : Span → Image → Type 0
SpreadsOver s (Along dim a b) = Unit {0}
SpreadsOver s (Fixed n) = Unit {0}
SpreadsOver s (Spread start step count) = Spread start step count ≡ any_image s

apart_tail : (sub : Subscript) (subs : List Subscript) → AreApart (sub ∷ subs) → AreApart subs
apart_tail sub subs apart e f word a b c d h k = let same : suc e ≡ suc f = apart (suc e) (suc f) word a b c d h k in omega (arith, same)

module _ (array : List Span) (sources : Option (List SourceItem)) where
  -- each image is the one that its subscript gives, and the triplets take the `:` sources one by one
  abbrev Made : (colons : List ℕ) → List Subscript → (base : List Span) → List Image → Type 0
  Made ds [] base [] = Unit {0}
  Made ds [] base (image ∷ images) = ⊥
  Made ds (sub ∷ subs) [] images = ⊥
  Made ds (sub ∷ subs) (s ∷ base) [] = ⊥
  Made ds (sub ∷ subs) (s ∷ base) (image ∷ images) = (image_in array sources ds sub s ≡ Some image) × Made (colons_left ds sub) subs base images

  made : (ds : List ℕ) (subs : List Subscript) (base : List Span) (images : List Image) → length subs ≡ length base → arranged array sources ds subs base ≡ Some images → Made ds subs base images
  unfolding arranged
  made ds [] [] images same h = subst (λ xs. Made ds [] [] xs) (at_end_none ds images h) tt
  made ds [] (s ∷ base) images same h = absurd (omega (arith, same))
  made ds (sub ∷ subs) [] images same h = absurd (omega (arith, same))
  made ds (sub ∷ subs) (s ∷ base) images same h =
      let f = fronted (image_in array sources ds sub s) (arranged array sources (colons_left ds sub) subs base) images h in
      subst (λ xs. Made ds (sub ∷ subs) (s ∷ base) xs) f.whole (f.here, made (colons_left ds sub) subs base f.rest (omega (arith, same)) f.later)

  made_length : (ds : List ℕ) (subs : List Subscript) (base : List Span) (images : List Image) → length subs ≡ length base → Made ds subs base images → length images ≡ length base
  made_length ds [] [] [] same m = refl
  made_length ds [] (s ∷ base) [] same m = absurd (omega (arith, same))
  made_length ds [] base (image ∷ images) same m = absurd m
  made_length ds (sub ∷ subs) [] images same m = absurd m
  made_length ds (sub ∷ subs) (s ∷ base) [] same m = absurd m
  made_length ds (sub ∷ subs) (s ∷ base) (image ∷ images) same m = ap suc (made_length (colons_left ds sub) subs base images (omega (arith, same)) m.1)

  -- ---- one image by itself

  -- what holds of it without a look at the elements of the array
  record IsSaid (s : Span) (image : Image) : Type 0 where
    followed : FollowsBelow (length array) image
    coefficients : HasSmallCoefficients image
    some : HasSome image
    over : SpreadsOver s image

  any_said : (s : Span) → IsSaid s (any_image s)
  any_said s = record { followed = tt; coefficients = tt; some = omega arith; over = refl }

  triplet_said : (low high stride : Option ℤ) (s : Span) (d : ℕ) → IfSome low IsInRange × IfSome high IsInRange × IfSome stride IsInRange
      → d < length array → IsSound s → IsSound (get_or array d no_span) → IsSaid s (triplet_image low high stride s d (get_or array d no_span))
  triplet_said low high stride s d fit below sound there =
      let a = get_or array d no_span in
      let step_small : unsigned_abs (step low high stride s) ≤ 2 ^ 31 - 1 = written_small stride (pos 1) fit.2 one_small in
      let first_small : unsigned_abs (first low high stride s) ≤ 2 ^ 31 - 1 = written_small low s.low fit.0 (low_small s sound) in
      let product = product_small (step low high stride s) a.low step_small (low_small a there) in
      record {
        followed = below;
        coefficients = (step_small, difference_small (first low high stride s) (step low high stride s *ℤ a.low) first_small product);
        some = tt;
        over = tt;
      }

  said_one : (ds : List ℕ) (sub : Subscript) (s : Span) (image : Image) → IsFit sources sub → AreColons (length array) sources → ((d : ℕ) → Contains ds d → d < length array)
      → AreSound array → IsSound s → image_in array sources ds sub s ≡ Some image → IsSaid s image
  said_one ds subscript.Any s image fit are below sound here h =
      let is : any_image s ≡ image = cc in subst (IsSaid s) is (any_said s)
  said_one ds (subscript.Linear None a b) s image fit are below sound here h =
      let is : Fixed b ≡ image = cc in subst (IsSaid s) is (record { followed = tt; coefficients = tt; some = tt; over = tt })
  said_one ds (subscript.Linear (Some word) a b) s image fit are below sound here h =
      let is : Along (dummy_dimension sources word) a b ≡ image = cc in
      subst (IsSaid s) is (record {
        followed = are.dummy word fit.2;
        coefficients = (range_small a fit.0, constant_small b (range_small b fit.1));
        some = tt;
        over = tt;
      })
  said_one [] (subscript.Triplet low high stride) s image fit are below sound here h = absurd cc
  said_one (d ∷ ds) (subscript.Triplet low high stride) s image fit are below sound here h =
      let a = get_or array d no_span in
      let inside : d < length array = below d (contains_here d ds) in
      subst (IsSaid s) (taken (matches low high stride s a) (triplet_image low high stride s d a) image h)
      (triplet_said low high stride s d fit inside here (sound d inside))

  said_each : (ds : List ℕ) (subs : List Subscript) (base : List Span) (images : List Image) → All (IsFit sources) subs → AreColons (length array) sources
      → ((d : ℕ) → Contains ds d → d < length array) → AreSound array → AreSound base → Made ds subs base images
      → (k : ℕ) → k < length images → IsSaid (get_or base k no_span) (get_or images k no_image)
  said_each ds [] base [] fit are below sound sound_base m k inside = absurd (omega (arith, inside))
  said_each ds [] base (image ∷ images) fit are below sound sound_base m k inside = absurd m
  said_each ds (sub ∷ subs) [] images fit are below sound sound_base m k inside = absurd m
  said_each ds (sub ∷ subs) (s ∷ base) [] fit are below sound sound_base m k inside = absurd m
  said_each ds (sub ∷ subs) (s ∷ base) (image ∷ images) fit are below sound sound_base m zero inside =
      said_one ds sub s image (All-head (IsFit sources) sub subs fit) are below sound (sound_base 0 (omega arith)) m.0
  said_each ds (sub ∷ subs) (s ∷ base) (image ∷ images) fit are below sound sound_base m (suc k) inside =
      said_each (colons_left ds sub) subs base images (All-tail (IsFit sources) sub subs fit) are (λ d has. below d (left_has ds sub d has)) sound
      (λ d l. sound_base (suc d) (omega (arith, l))) m.1 k (omega (arith, inside))

  -- ---- what an image follows

  -- a dimension that a dummy in this subscript is
  record IsDummyOf (sub : Subscript) (d : ℕ) : Type 0 where
    word : List ℕ
    a : ℤ
    b : ℤ
    is : sub ≡ subscript.Linear (Some word) a b
    known : dummies sources word ≡ true
    dimension : dummy_dimension sources word ≡ d

  -- the first of the `:` sources that are left, which a triplet takes
  record IsFirstOf (ds : List ℕ) (sub : Subscript) (d : ℕ) : Type 0 where
    rest : List ℕ
    whole : d ∷ rest ≡ ds
    left : colons_left ds sub ≡ rest

  none_followed : (d : ℕ) (x image : Image) → x ≡ image → follows d x ≡ false → follows d image ≡ true → ⊥
  none_followed d x image is none h = false≢true (sym none ∙ ap (follows d) is ∙ h)

  along_followed : (d dim : ℕ) (a b : ℤ) (image : Image) → Along dim a b ≡ image → follows d image ≡ true → dim ≡ d
  along_followed d dim a b image is h = eqb-true dim d (ap (follows d) is ∙ h)

  follows_one : (ds : List ℕ) (sub : Subscript) (s : Span) (image : Image) (d : ℕ) → IsFit sources sub → image_in array sources ds sub s ≡ Some image → follows d image ≡ true
      → IsDummyOf sub d ⊎ IsFirstOf ds sub d
  follows_one ds subscript.Any s image d fit h on = let is : any_image s ≡ image = cc in absurd (none_followed d (any_image s) image is refl on)
  follows_one ds (subscript.Linear None a b) s image d fit h on = let is : Fixed b ≡ image = cc in absurd (none_followed d (Fixed b) image is refl on)
  follows_one ds (subscript.Linear (Some word) a b) s image d fit h on =
      let is : Along (dummy_dimension sources word) a b ≡ image = cc in
      inl (record { word = word; a = a; b = b; is = refl; known = fit.2; dimension = along_followed d (dummy_dimension sources word) a b image is on })
  follows_one [] (subscript.Triplet low high stride) s image d fit h on = absurd cc
  follows_one (e ∷ ds) (subscript.Triplet low high stride) s image d fit h on =
      let t = get_or array e no_span in
      let is = taken (matches low high stride s t) (triplet_image low high stride s e t) image h in
      let same : e ≡ d = along_followed d e _ _ image is on in
      inr (record { rest = ds; whole = ap (λ x. x ∷ ds) (sym same); left = refl })

  -- a dimension that the dummy of the subscript at a place is
  record IsDummyAt (subs : List Subscript) (k d : ℕ) : Type 0 where
    word : List ℕ
    a : ℤ
    b : ℤ
    at : slice_get subs k ≡ Some (subscript.Linear (Some word) a b)
    known : dummies sources word ≡ true
    dimension : dummy_dimension sources word ≡ d

  follows_from : (ds : List ℕ) (subs : List Subscript) (base : List Span) (images : List Image) (d k : ℕ) → All (IsFit sources) subs → Made ds subs base images
      → follows d (get_or images k no_image) ≡ true → IsDummyAt subs k d ⊎ Contains ds d
  follows_from ds [] base [] d k fit m on = absurd (false≢true on)
  follows_from ds [] base (image ∷ images) d k fit m on = absurd m
  follows_from ds (sub ∷ subs) [] images d k fit m on = absurd m
  follows_from ds (sub ∷ subs) (s ∷ base) [] d k fit m on = absurd m
  follows_from ds (sub ∷ subs) (s ∷ base) (image ∷ images) d zero fit m on =
      elim (follows_one ds sub s image d (All-head (IsFit sources) sub subs fit) m.0 on) [
        | inl o ↦ inl (record { word = o.word; a = o.a; b = o.b; at = ap Some o.is; known = o.known; dimension = o.dimension })
        | inr o ↦ inr (subst (λ xs. Contains xs d) o.whole (contains_here d o.rest))
      ]
  follows_from ds (sub ∷ subs) (s ∷ base) (image ∷ images) d (suc k) fit m on =
      elim (follows_from (colons_left ds sub) subs base images d k (All-tail (IsFit sources) sub subs fit) m.1 on) [
        | inl o ↦ inl (record { word = o.word; a = o.a; b = o.b; at = o.at; known = o.known; dimension = o.dimension })
        | inr has ↦ inr (left_has ds sub d has)
      ]

  -- ---- no dimension is followed twice

  -- no dummy's dimension is one of these
  abbrev NoDummies : List ℕ → Type 0
  NoDummies ds = (word : List ℕ) → dummies sources word ≡ true → Contains ds (dummy_dimension sources word) → ⊥

  no_dummy : (ds : List ℕ) (word : List ℕ) (d : ℕ) → NoDummies ds → dummies sources word ≡ true → dummy_dimension sources word ≡ d → Contains ds d → ⊥
  no_dummy ds word d none known is has = none word known (subst (Contains ds) (sym is) has)

  not_later : (ds : List ℕ) (sub : Subscript) (subs : List Subscript) (d k : ℕ) → AreColons (length array) sources → Distinct ds → NoDummies ds → AreApart (sub ∷ subs)
      → IsDummyOf sub d ⊎ IsFirstOf ds sub d → IsDummyAt subs k d ⊎ Contains (colons_left ds sub) d → ⊥
  not_later ds sub subs d k are distinct none apart (inl o) (inl p) =
      let same : o.word ≡ p.word = are.one o.word p.word o.known p.known (o.dimension ∙ sym p.dimension) in
      let again : slice_get subs k ≡ Some (subscript.Linear (Some o.word) p.a p.b) = subst (λ w. slice_get subs k ≡ Some (subscript.Linear (Some w) p.a p.b)) (sym same) p.at in
      let twice : 0 ≡ suc k = apart 0 (suc k) o.word o.a o.b p.a p.b (ap Some o.is) again in
      absurd (omega (arith, twice))
  not_later ds sub subs d k are distinct none apart (inl o) (inr has) = no_dummy ds o.word d none o.known o.dimension (left_has ds sub d has)
  not_later ds sub subs d k are distinct none apart (inr o) (inl p) =
      no_dummy ds p.word d none p.known p.dimension (subst (λ xs. Contains xs d) o.whole (contains_here d o.rest))
  not_later ds sub subs d k are distinct none apart (inr o) (inr has) =
      let split : Distinct (d ∷ o.rest) = subst Distinct (sym o.whole) distinct in
      split.0 (subst (λ xs. Contains xs d) o.left has)

  followed_once : (ds : List ℕ) (subs : List Subscript) (base : List Span) (images : List Image) → All (IsFit sources) subs → AreColons (length array) sources
      → Distinct ds → NoDummies ds → AreApart subs → Made ds subs base images → (d e f : ℕ)
      → follows d (get_or images e no_image) ≡ true → follows d (get_or images f no_image) ≡ true → e ≡ f
  followed_once ds [] base [] fit are distinct none apart m d e f one other = absurd (false≢true one)
  followed_once ds [] base (image ∷ images) fit are distinct none apart m d e f one other = absurd m
  followed_once ds (sub ∷ subs) [] images fit are distinct none apart m d e f one other = absurd m
  followed_once ds (sub ∷ subs) (s ∷ base) [] fit are distinct none apart m d e f one other = absurd m
  followed_once ds (sub ∷ subs) (s ∷ base) (image ∷ images) fit are distinct none apart m d zero zero one other = refl
  followed_once ds (sub ∷ subs) (s ∷ base) (image ∷ images) fit are distinct none apart m d zero (suc f) one other =
      absurd (not_later ds sub subs d f are distinct none apart
      (follows_one ds sub s image d (All-head (IsFit sources) sub subs fit) m.0 one)
      (follows_from (colons_left ds sub) subs base images d f (All-tail (IsFit sources) sub subs fit) m.1 other))
  followed_once ds (sub ∷ subs) (s ∷ base) (image ∷ images) fit are distinct none apart m d (suc e) zero one other =
      absurd (not_later ds sub subs d e are distinct none apart
      (follows_one ds sub s image d (All-head (IsFit sources) sub subs fit) m.0 other)
      (follows_from (colons_left ds sub) subs base images d e (All-tail (IsFit sources) sub subs fit) m.1 one))
  followed_once ds (sub ∷ subs) (s ∷ base) (image ∷ images) fit are distinct none apart m d (suc e) (suc f) one other =
      ap suc (followed_once (colons_left ds sub) subs base images (All-tail (IsFit sources) sub subs fit) are (left_distinct ds sub distinct)
      (λ word known has. none word known (left_has ds sub (dummy_dimension sources word) has)) (apart_tail sub subs apart) m.1 d e f one other)

-- ---- positions lie in the base

or_zero_is : (z : ℤ) → pos 0 ≤ℤ z → pos (or_zero z) ≡ z
or_zero_is (pos n) h = refl
or_zero_is (negsuc n) h = absurd (omega (arith, ints, h))

up_to : (low high i : ℤ) → low ≤ℤ i → i ≤ℤ high → (low +ℤ pos (unsigned_abs (i -ℤ low)) ≡ i) × (unsigned_abs (i -ℤ low) < or_zero (high -ℤ low +ℤ pos 1))
up_to low high i h k =
    let wide : pos 0 ≤ℤ (high -ℤ low +ℤ pos 1) = omega (arith, ints, h, k) in
    let many = or_zero_is (high -ℤ low +ℤ pos 1) wide in
    (omega (arith, ints, h, k), omega (arith, ints, h, k, many))

run_has : (run : Run) (i : ℤ) → LiesWithin run i → Contains (integers run) i
run_has run i h =
    let at = up_to run.low run.high i h.least h.greatest in
    subst (Contains (integers run)) at.0
    (contains_map (λ k. run.low +ℤ pos k) (range_with_len 0 (run_extent run)) (unsigned_abs (i -ℤ run.low)) (range_has (run_extent run) (unsigned_abs (i -ℤ run.low)) at.1))

lies_choice : (bounds : List Run) (index : List ℤ) → LiesIn bounds index → IsChoice (map integers bounds) index
lies_choice [] [] h = tt
lies_choice [] (i ∷ index) h = absurd h
lies_choice (run ∷ bounds) [] h = absurd h
lies_choice (run ∷ bounds) (i ∷ index) h = (run_has run i h.0, lies_choice bounds index h.1)

none_is : {A : Type 0} (p : A → Bool) (xs : List A) → list_any p xs ≡ false → (x : A) → Contains xs x → p x ≡ false
none_is p xs h x has = by (p x) refl where
  by : (b : Bool) → p x ≡ b → p x ≡ false
  by true e = absurd (false≢true (sym h ∙ list_any_at p xs has.0 x has.1 (ap p has.2 ∙ e)))
  by false e = e

not_beyond : (s : Span) (u : ℤ) → is_beyond s u ≡ false → IsIn s u
not_beyond s u h =
    let below : int_lt u s.low ≡ false = either_first (int_lt u s.low) (int_lt s.high u) h in
    let above : int_lt s.high u ≡ false = either_second (int_lt u s.low) (int_lt s.high u) h in
    record { least = omega (arith, ints, below); greatest = omega (arith, ints, above) }

none_strays : (index : List ℤ) (images : List Image) (base : List Span) → strays_in_some index images base ≡ false → (k : ℕ) → k < length images → k < length base
    → strays index (get_or images k no_image) (get_or base k no_span) ≡ false
none_strays index [] base h k below inside = absurd (omega (arith, below))
none_strays index (image ∷ images) [] h k below inside = absurd (omega (arith, inside))
none_strays index (image ∷ images) (s ∷ base) h zero below inside = either_first (strays index image s) (strays_in_some index images base) h
none_strays index (image ∷ images) (s ∷ base) h (suc k) below inside =
    none_strays index images base (either_second (strays index image s) (strays_in_some index images base) h) k (omega (arith, below)) (omega (arith, inside))

none_outside : (array base : List Span) (images : List Image) (index : List ℤ) → is_outside array base images ≡ false → LiesIn (map run_of array) index → strays_in_some index images base ≡ false
unfolding is_outside
none_outside array base images index h lies =
    none_is (λ i. strays_in_some i images base) (indices (map run_of array)) h index (choice_in (map integers (map run_of array)) index (lies_choice (map run_of array) index lies))

-- every position of a dimension is one
place_in : (low high u : ℤ) (k : ℕ) → low ≤ℤ high → k < unsigned_abs (high -ℤ low) + 1 → low +ℤ (pos k *ℤ pos 1) ≡ u → (low ≤ℤ u) × (u ≤ℤ high)
place_in low high u k order below is =
    let one = *ℤ-one (pos k) in
    (omega (arith, ints, order, below, is, one), omega (arith, ints, order, below, is, one))

any_in : (s : Span) (u : ℤ) → IsSound s → Contains (spread s.low (pos 1) (extent s)) u → IsIn s u
any_in s u sound has =
    let from = contains_from_map (λ k. s.low +ℤ (pos k *ℤ pos 1)) (range_with_len 0 (extent s)) u has in
    let number = range_from 0 (extent s) from.0 from.1 in
    let most = number.most in
    let at = place_in s.low s.high u from.0 sound.order (omega arith) from.2 in
    record { least = at.0; greatest = at.1 }

image_inside : (s : Span) (image : Image) (index : List ℤ) (u : ℤ) → IsSound s → SpreadsOver s image → strays index image s ≡ false → Contains (positions image index) u → IsIn s u
image_inside s (Along dim a b) index u sound over none has =
    subst (IsIn s) (contains_only (a *ℤ at_dimension index dim +ℤ b) u has) (not_beyond s (a *ℤ at_dimension index dim +ℤ b) none)
image_inside s (Fixed n) index u sound over none has = subst (IsIn s) (contains_only n u has) (not_beyond s n none)
image_inside s (Spread start stride count) index u sound over none has =
    any_in s u sound (subst (λ i. Contains (positions i index) u) over has)

-- ---- the law

-- for subscripts that are written or that stand for `:` in each dimension
written_aligned : (array base : List Span) (sources : Option (List SourceItem)) (subs : List Subscript) (images : List Image) → AreGood array → AreGood base → AreFit sources subs
    → counts_agree sources array ≡ true → length subs ≡ length base → arranged array sources (colons (length array) sources) subs base ≡ Some images → is_outside array base images ≡ false → AreAligned array base images
written_aligned array base sources subs images good good_base fit agree same is inside =
    let ds = colons (length array) sources in
    let are = are_colons array sources agree in
    let m = made array sources ds subs base images same is in
    let long : length images ≡ length base = made_length array sources ds subs base images same m in
    let said = said_each array sources ds subs base images fit.each are are.below good.sound good_base.sound m in
    record {
      size = long;
      each = λ e below.
          let under : e < length images = omega (arith, long, below) in
          let one = said e under in
          record {
            followed = one.followed;
            coefficients = one.coefficients;
            some = one.some;
            inside = λ index u lies has.
                image_inside (get_or base e no_span) (get_or images e no_image) index u (good_base.sound e below) one.over
                (none_strays index images base (none_outside array base images index inside lies) e under below) has;
          };
      once = λ d e f below under one other. followed_once array sources ds subs base images fit.each are are.distinct are.apart fit.apart m d e f one other;
    }

whole_fit : (sources : Option (List SourceItem)) → IsFit sources whole_dimension
whole_fit sources = (tt, tt, tt)

at_replicate : (n k : ℕ) (x y : Subscript) → slice_get (replicate n x) k ≡ Some y → x ≡ y
at_replicate zero k x y h = absurd cc
at_replicate (suc n) zero x y h = cc
at_replicate (suc n) (suc k) x y h = at_replicate n k x y h

whole_apart : (n : ℕ) → AreApart (replicate n whole_dimension)
whole_apart n e f word a b c d h k = let is : whole_dimension ≡ subscript.Linear (Some word) a b = at_replicate n e whole_dimension (subscript.Linear (Some word) a b) h in absurd cc

pub arranged_aligned : (array base : List Span) (sources : Option (List SourceItem)) (subs : Option (List SubTree)) (said : List Subscript) (images : List Image) → AreGood array → AreGood base → AreFit sources said
    → counts_agree sources array ≡ true → counts_agree subs base ≡ true → IfSome subs (λ written. length said ≡ length written)
    → arranged array sources (colons (length array) sources) (written_subscripts (length base) subs said) base ≡ Some images → is_outside array base images ≡ false → AreAligned array base images
arranged_aligned array base sources None said images good good_base fit agree same count is inside =
    let whole = replicate (length base) whole_dimension in
    let fits : AreFit sources whole = record { each = All-replicate (IsFit sources) (length base) whole_dimension (whole_fit sources); apart = whole_apart (length base) } in
    written_aligned array base sources whole images good good_base fits agree (length-replicate (length base) whole_dimension) is inside
arranged_aligned array base sources (Some written) said images good good_base fit agree same count is inside =
    written_aligned array base sources said images good good_base fit agree (count ∙ eqb-true (length written) (length base) same) is inside
