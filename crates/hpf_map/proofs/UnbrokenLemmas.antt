-- What holds of names and of the ways in which they are mapped, where a text has no breach.
use Rattle.std.proofs.Common.{◌≡◌, ◌==◌, ℕ, zero, suc, ◌+◌, ◌-◌, ◌<◌, Bool, true, false, cond, not, ◌&&◌, ◌||◌, List, [], ◌∷◌, length, map, get_or, All, Option, Some, None, refl, sym, ap, subst, ◌∙◌, arith}
use Rattle.std.specs.Prelude.{Contains, slice_get, option_and_then, is_some, IfSome}
use Rattle.std.specs.List.{flat_map, list_any, find, position_from, range_with_len}
use Rattle.std.proofs.lemmas.Bool.{false≢true, eqb-true}
use Rattle.std.proofs.lemmas.List.Elements.{All-head, All-tail}
use Rattle.hpf_lex.specs.declared.refusal.MapRefusal.{MapRefusal}
use Rattle.hpf_own.specs.declared.image.Image.{Image}
use Rattle.hpf_syntax.specs.declared.tree.At.{At}
use Rattle.hpf_syntax.specs.declared.tree.Spot.{Spot}
use Rattle.hpf_syntax.specs.declared.tree.SourceItem.{SourceItem}
use Rattle.hpf_syntax.specs.Plain.{FormatTree, SubTree, ItemTree, ImplicitNone, Variables, Constants, Processors, Template, Distribute, Align, Shadow, Input, Stage}
use Rattle.hpf_map.specs.declared.constraint.Constraint.TheVariants.{Pipeline, Rank}
use Rattle.hpf_map.specs.declared.name.Meaning.{Meaning}
use Rattle.hpf_map.specs.declared.name.Meaning.TheVariants as meaning
use Rattle.hpf_map.specs.declared.name.Name.{Name}
use Rattle.hpf_map.specs.declared.name.Space.TheVariants as space
use Rattle.hpf_map.specs.declared.name.Span.{Span}
use Rattle.hpf_map.specs.declared.program.Need.{Need}
use Rattle.hpf_map.specs.declared.role.Role.{Role}
use Rattle.hpf_map.specs.declared.role.Role.TheVariants as role
use Rattle.hpf_map.specs.declared.subscript.Subscript.{Subscript}
use Rattle.hpf_map.specs.declared.way.Way.{Way}
use Rattle.hpf_map.specs.declared.way.Way.TheVariants.{Unmapped, Distributed, Aligned}
use Rattle.hpf_map.specs.Alignments.{align_breaches, alignee_breaches, images_between}
use Rattle.hpf_map.specs.Composed.{AreAligned}
use Rattle.hpf_map.specs.Constraint.{breach_if}
use Rattle.hpf_map.specs.Direct.{images_along, direct_images}
use Rattle.hpf_map.specs.Dealing.{formats_breaches}
use Rattle.hpf_map.specs.Distributions.{divided, is_arrangement, fits_meaning, fits, is_broken, count_differs, target, free_shape, target_shape, nothing_fits, first_breach, target_breaches, distribute_breaches}
use Rattle.hpf_map.specs.Known.{is_named, known}
use Rattle.hpf_map.specs.Landings.{name_shape, AlignedAt, AreClear}
use Rattle.hpf_map.specs.Layers.{names_of, breaches_in}
use Rattle.hpf_map.specs.Ownership.{images_by}
use Rattle.hpf_map.specs.Paired.{each_with, at_place}
use Rattle.hpf_map.specs.Pipeline.{line_of, lines, base_breaches, pipeline_breaches}
use Rattle.hpf_map.specs.Refusal.{all_breaches}
use Rattle.hpf_map.specs.Shadows.{shadows_breaches}
use Rattle.hpf_map.specs.Stages.{stages_breaches}
use Rattle.hpf_map.specs.Sound.{AreSoundNames, AreGood, IsSoundShape, IsSoundMeaning}
use Rattle.hpf_map.specs.Spaces.{meaning_shape, fit, used_as, shape_of}
use Rattle.hpf_map.specs.Subscripts.{all_subscripts}
use Rattle.hpf_map.specs.Uses.{suits, use_breaches, onto_breaches, item_use_breaches}
use Rattle.hpf_map.specs.Widths.{all_widths}
use Rattle.hpf_map.specs.Ways.{used_place, place_of, ways_of, way_at, is_unmapped, leads_on, walk_end, is_on_cycle, cycle_breaches, first_uses, has_unmapped_base}
use Rattle.hpf_map.proofs.ChoiceLemmas.{contains_here, contains_later, contains_none, contains_only, contains_from_flat_map}
use Rattle.hpf_map.proofs.CycleLemmas.{end_on_cycle}
use Rattle.hpf_map.proofs.EmptyLemmas.{first_empty, others_empty, breach_if_none, each_empty, each_with_empty}
use Rattle.hpf_map.proofs.FirstUseLemmas.{mapped_by, IsDistributee, IsAlignee, says}
use Rattle.hpf_map.specs.Fit.{IsWhole, IsFree}
use Rattle.hpf_map.proofs.IndexLemmas.{IsFirstAt, first_at, none_at}
use Rattle.hpf_map.proofs.ClearLemmas.{images_clear}
use Rattle.hpf_map.proofs.FitLemmas.{said_fit}
use Rattle.hpf_map.proofs.SoundLemmas.{place_good, names_of_sound}
use Rattle.hpf_map.proofs.WalkLemmas.{walk-iterate}

-- ---- the breaches of a text, layer by layer

pub record AreNone (need : Need) (items : List ItemTree) : Type 0 where
  pub layers : breaches_in items ≡ []
  pub uses : flat_map (item_use_breaches (names_of items)) items ≡ []
  pub aligns : each_with (align_breaches (names_of items)) items (all_subscripts items) ≡ []
  pub distributes : flat_map (distribute_breaches (names_of items)) items ≡ []
  pub formats : each_with (formats_breaches (names_of items)) items (all_widths items) ≡ []
  pub cycles : flat_map (cycle_breaches (ways_of (names_of items) items)) (first_uses (names_of items) items) ≡ []
  pub pipeline : pipeline_breaches need (names_of items) items ≡ []
  pub shadows : shadows_breaches (names_of items) items ≡ []
  pub stages : stages_breaches (names_of items) items ≡ []

uses_none : (items : List ItemTree) → breaches_in items ≡ [] → flat_map (item_use_breaches (names_of items)) items ≡ []
unfolding breaches_in
uses_none items h = others_empty _ _ h

pub all_none : (need : Need) (items : List ItemTree) → all_breaches need items ≡ [] → AreNone need items
unfolding all_breaches
all_none need items h =
    let s = first_empty _ _ h in
    let g = first_empty _ _ s in
    let e = first_empty _ _ g in
    let f = first_empty _ _ (first_empty _ _ e) in
    let d = first_empty _ _ f in
    let b = first_empty _ _ d in
    record {
      layers = first_empty _ _ b;
      uses = uses_none items (first_empty _ _ b);
      aligns = others_empty _ _ b;
      distributes = others_empty _ _ d;
      formats = others_empty _ _ f;
      cycles = others_empty _ _ e;
      pipeline = others_empty _ _ g;
      shadows = others_empty _ _ s;
      stages = others_empty _ _ h;
    }

-- ---- names

pub got : {A : Type 0} (xs : List A) (n : ℕ) (d : A) → n < length xs → slice_get xs n ≡ Some (get_or xs n d)
got [] n d below = absurd (omega arith)
got (x ∷ xs) zero d below = refl
got (x ∷ xs) (suc n) d below = got xs n d (omega arith)

-- a name that a word stands for, at its place
pub record IsUsed (names : List Name) (asked : Role) (word : List ℕ) (n : ℕ) : Type 0 where
  pub name : Name
  pub there : slice_get names n ≡ Some name
  pub below : n < length names
  pub used : used_as names asked word ≡ Some name
  pub fitting : fit asked name ≡ Some name
  pub suits : suits asked name.meaning ≡ true

pub fit_is : (asked : Role) (x y : Name) → fit asked x ≡ Some y → (x ≡ y) × (suits asked x.meaning ≡ true)
fit_is asked x y h = by x.free (suits asked x.meaning) refl refl where
  by : (a b : Bool) → x.free ≡ a → suits asked x.meaning ≡ b → (x ≡ y) × (suits asked x.meaning ≡ true)
  by true true e f = let is : fit asked x ≡ Some x = rw (e, f) refl in let same : Some x ≡ Some y = sym is ∙ h in (cc, f)
  by true false e f = let is : fit asked x ≡ None = rw (e, f) refl in absurd (let no : None ≡ Some y = sym is ∙ h in cc)
  by false b e f = let is : fit asked x ≡ None = rw e refl in absurd (let no : None ≡ Some y = sym is ∙ h in cc)

used_at : (names : List Name) (asked : Role) (word : List ℕ) (n : ℕ) (y : Name) → used_as names asked word ≡ Some y → place_of names word ≡ Some n → IsUsed names asked word n
unfolding known
used_at names asked word n y used place =
    let f : IsFirstAt (is_named word) 0 names n = first_at (is_named word) 0 names n place in
    let z : n - 0 ≡ n = omega arith in
    let below : n < length names = omega (arith, f.below) in
    let found : known names word ≡ Some (get_or names n y) = f.first y ∙ ap (λ m. Some (get_or names m y)) z in
    let fitting : fit asked (get_or names n y) ≡ Some y = sym (ap (option_and_then (fit asked)) found) ∙ used in
    let r = fit_is asked (get_or names n y) y fitting in
    record {
      fitting = subst (λ x. fit asked x ≡ Some y) r.0 fitting;
      name = y;
      there = got names n y below ∙ ap Some r.0;
      below = below;
      used = used;
      suits = ap (λ (m : Name). suits asked m.meaning) (sym r.0) ∙ r.1;
    }

pub used_is : (names : List Name) (asked : Role) (word : List ℕ) (n : ℕ) → used_place names asked word ≡ Some n → IsUsed names asked word n
unfolding used_place
used_is names asked word n h = by (used_as names asked word) refl h where
  by : (o : Option Name) → used_as names asked word ≡ o → cond (is_some o) (place_of names word) None ≡ Some n → IsUsed names asked word n
  by None e place = absurd cc
  by (Some y) e place = used_at names asked word n y e place

-- a word that is used so has a place
pub used_placed : (names : List Name) (asked : Role) (word : List ℕ) (y : Name) → used_as names asked word ≡ Some y → (n : ℕ) × (place_of names word ≡ Some n)
unfolding known
used_placed names asked word y used = by (place_of names word) refl where
  by : (o : Option ℕ) → place_of names word ≡ o → (n : ℕ) × (place_of names word ≡ Some n)
  by None e = absurd (let no : None ≡ Some y = sym (ap (option_and_then (fit asked)) (none_at (is_named word) 0 names e)) ∙ used in cc)
  by (Some n) e = (n, e)

pub placed : (names : List Name) (asked : Role) (word : List ℕ) (n : ℕ) (y : Name) → used_as names asked word ≡ Some y → place_of names word ≡ Some n → used_place names asked word ≡ Some n
unfolding used_place
placed names asked word n y used place = rw used place

-- its shape
pub same_shape : (names : List Name) (asked : Role) (word : List ℕ) (n : ℕ) (u : IsUsed names asked word n) → shape_of names asked word ≡ name_shape names n
same_shape names asked word n u = rw (u.used, u.there) refl

-- a name that stands for an array, a template or an arrangement
abbrev pub IsShaped : Meaning → Type 0
IsShaped m = (spans : List Span) × (meaning_shape m ≡ Some spans)

is_there : {A : Type 0} (o : Option A) → is_some o ≡ true → (x : A) × (o ≡ Some x)
is_there None h = absurd (false≢true h)
is_there (Some x) h = (x, refl)

pub array_shaped : (m : Meaning) → suits role.Array m ≡ true → IsWhole m → IsShaped m
array_shaped meaning.Scalar h w = absurd (false≢true h)
array_shaped (meaning.Shaped what dimensions) h w = is_there dimensions.shape w
array_shaped (meaning.Constant v) h w = absurd (false≢true h)
array_shaped (meaning.List vs) h w = absurd (false≢true h)

mapped_shaped : (m : Meaning) → suits role.Mapped m ≡ true → IsWhole m → IsShaped m
mapped_shaped meaning.Scalar h w = absurd (false≢true h)
mapped_shaped (meaning.Shaped what dimensions) h w = is_there dimensions.shape w
mapped_shaped (meaning.Constant v) h w = absurd (false≢true h)
mapped_shaped (meaning.List vs) h w = absurd (false≢true h)

pub target_shaped : (m : Meaning) → suits role.Target m ≡ true → IsWhole m → IsShaped m
target_shaped meaning.Scalar h w = absurd (false≢true h)
target_shaped (meaning.Shaped what dimensions) h w = is_there dimensions.shape w
target_shaped (meaning.Constant v) h w = absurd (false≢true h)
target_shaped (meaning.List vs) h w = absurd (false≢true h)

pub free_at : (names : List Name) (asked : Role) (word : List ℕ) (n : ℕ) → All IsFree names → (u : IsUsed names asked word n) → IsFree u.name
free_at names asked word n free u =
    let at : Some (get_or names n u.name) ≡ Some u.name = sym (got names n u.name u.below) ∙ u.there in
    subst IsFree (let same : get_or names n u.name ≡ u.name = cc in same) (free n u.name u.below)

pub nobody : Name
nobody = record { word = []; free = false; meaning = meaning.Scalar }

suits_where : (a b : Bool) → a ≡ true → (a && not b) ≡ false → b ≡ true
suits_where true true e h = refl
suits_where true false e h = absurd cc
suits_where false b e h = absurd cc

fitting : (asked : Role) (x : Name) → x.free ≡ true → suits asked x.meaning ≡ true → fit asked x ≡ Some x
fitting asked x free suit = rw (free, suit) refl

-- it suits its use, where it is declared
pub record IsFound (names : List Name) (asked : Role) (word : List ℕ) : Type 0 where
  pub place : ℕ
  pub used : used_place names asked word ≡ Some place

pub used_free : (names : List Name) (asked : Role) (at : At) (word : List ℕ) → All IsFree names → use_breaches asked at (known names word) ≡ [] → IsFound names asked word
unfolding use_breaches used_place known
used_free names asked at word free h = by (position_from (is_named word) 0 names) refl where
  by : (o : Option ℕ) → position_from (is_named word) 0 names ≡ o → IsFound names asked word
  by None e = absurd (let none : find (is_named word) names ≡ None = none_at (is_named word) 0 names e in let no : use_breaches asked at None ≡ [] = subst (λ o. use_breaches asked at o ≡ []) none h in cc)
  by (Some i) e =
      let f : IsFirstAt (is_named word) 0 names i = first_at (is_named word) 0 names i e in
      let x : Name = get_or names (i - 0) nobody in
      let found : find (is_named word) names ≡ Some x = f.first nobody in
      let z : i - 0 ≡ i = omega arith in
      let is_free : IsFree x = free (i - 0) nobody (omega (arith, f.below)) in
      let none : use_breaches asked at (Some x) ≡ [] = subst (λ o. use_breaches asked at o ≡ []) found h in
      let suit : suits asked x.meaning ≡ true = suits_where x.free (suits asked x.meaning) is_free.free (breach_if_none _ _ at none) in
      let used : option_and_then (fit asked) (find (is_named word) names) ≡ Some x = ap (option_and_then (fit asked)) found ∙ fitting asked x is_free.free suit in
      record { place = i; used = ap (λ (o : Option Name). cond (is_some o) (position_from (is_named word) 0 names) None) used ∙ e }

get_mapped : {A : Type 0} (f : ℕ → A) (a count n : ℕ) → n < count → slice_get (map f (range_with_len a count)) n ≡ Some (f (a + n))
get_mapped f a zero n below = absurd (omega arith)
get_mapped f a (suc count) zero below = ap (λ m. Some (f m)) (let e : a ≡ a + 0 = omega arith in e)
get_mapped f a (suc count) (suc n) below = get_mapped f (a + 1) count n (omega arith) ∙ ap (λ m. Some (f m)) (let e : a + 1 + n ≡ a + suc n = omega arith in e)

good : (names : List Name) (n : ℕ) (spans : List Span) → AreSoundNames names → name_shape names n ≡ Some spans → AreGood spans
good names n spans sound has = subst (λ o. IfSome o AreGood) has (place_good names n sound)

shape_there : (names : List Name) (n : ℕ) (x : Name) → slice_get names n ≡ Some x → name_shape names n ≡ meaning_shape x.meaning
shape_there names n x there = rw there refl

pub contains_get : {A : Type 0} (xs : List A) (k : ℕ) (x : A) → slice_get xs k ≡ Some x → Contains xs x
contains_get [] k x is = absurd (let no : None ≡ Some x = is in cc)
contains_get (y ∷ xs) zero x is = subst (Contains (y ∷ xs)) (let same : y ≡ x = cc in same) (contains_here y xs)
contains_get (y ∷ xs) (suc k) x is = contains_later y xs x (contains_get xs k x is)

none_some : {A : Type 0} (x : A) (o : Option A) → o ≡ None → o ≡ Some x → ⊥
none_some x o e f = absurd (let no : None ≡ Some x = sym e ∙ f in cc)

leads_mapped : (w : Way) → leads_on w ≡ true → is_unmapped w ≡ false
leads_mapped Unmapped h = absurd (false≢true h)
leads_mapped (Distributed k) h = refl
leads_mapped (Aligned k b) h = refl

listed_images : (names : List Name) (items : List ItemTree) (ways : List Way) (n : ℕ) (w : Way) → n < length names → way_at ways n ≡ w
    → slice_get (direct_images names items ways) n ≡ Some (images_along names items n w)
listed_images names items ways n w below is =
    get_mapped (λ m. images_along names items m (way_at ways m)) 0 (length names) n below
    ∙ ap (λ m. Some (images_along names items m (way_at ways m))) (let e : 0 + n ≡ n = omega arith in e)
    ∙ ap (λ v. Some (images_along names items n v)) is

by_parts : (names : List Name) (items : List ItemTree) (k n b : ℕ) (alignees : List Spot) (sources : Option (List SourceItem)) (base : Spot) (subs : Option (List SubTree)) (said : List Subscript) (array space : List Span) (images : List Image)
    → slice_get items k ≡ Some (Align alignees sources base subs) → at_place k (all_subscripts items) ≡ Some said → name_shape names n ≡ Some array → name_shape names b ≡ Some space
    → images_between sources subs (Some said) (Some array) (Some space) ≡ Some (Some images) → images_by names items k n b ≡ Some images
unfolding images_by
by_parts names items k n b alignees sources base subs said array space images item there has_array has_space are = rw (item, there, has_array, has_space, are) refl

contained : {A : Type 0} (P : A → Type 0) (xs : List A) (x : A) → All P xs → Contains xs x → P x
contained P xs x all has = subst P has.2 (all has.0 x has.1)

-- ---- arrangements

-- the first of those that pass
record IsPassed {A : Type 0} (p : A → Bool) (xs : List A) : Type 0 where
  item : A
  found : find p xs ≡ Some item
  passes : p item ≡ true
  stands : Contains xs item

passed : {A : Type 0} (p : A → Bool) (xs : List A) → list_any p xs ≡ true → IsPassed p xs
passed p [] h = absurd (false≢true h)
passed p (x ∷ xs) h = by (p x) refl h (passed p xs) where
  by : (b : Bool) → p x ≡ b → (b || list_any p xs) ≡ true → (list_any p xs ≡ true → IsPassed p xs) → IsPassed p (x ∷ xs)
  by true e h later = record { item = x; found = rw e refl; passes = e; stands = contains_here x xs }
  by false e h later = let r = later h in record { item = r.item; found = rw e r.found; passes = r.passes; stands = contains_later x xs r.item r.stands }

whole_arrangement : (m : Meaning) (free : Bool) → free ≡ true → IsWhole m → (is_arrangement m && not (free && is_some (meaning_shape m))) ≡ false
whole_arrangement meaning.Scalar free f w = refl
whole_arrangement (meaning.Shaped space.Array dimensions) free f w = refl
whole_arrangement (meaning.Shaped space.Template dimensions) free f w = refl
whole_arrangement (meaning.Shaped space.Arrangement dimensions) free f w = rw (f, w) refl
whole_arrangement (meaning.Constant v) free f w = refl
whole_arrangement (meaning.List vs) free f w = refl

none_broken : (count : ℕ) (names : List Name) → All IsFree names → list_any (λ n. is_broken n || fits count n) names ≡ list_any (fits count) names
none_broken count [] free = refl
none_broken count (n ∷ names) free =
    let here : IsFree n = All-head IsFree n names free in
    rw (whole_arrangement n.meaning n.free here.free here.whole) (ap (λ b. fits count n || b) (none_broken count names (All-tail IsFree n names free)))

-- an arrangement of so many dimensions
pub record IsTarget (count : ℕ) (o : Option (List Span)) : Type 0 where
  pub target : List Span
  pub has : o ≡ Some target
  pub over : count ≡ length target

fitting_shape : (count : ℕ) (m : Meaning) → fits_meaning count m ≡ true → IsWhole m → IsSoundMeaning m → IsTarget count (meaning_shape m)
fitting_shape count meaning.Scalar h w s = absurd (false≢true h)
fitting_shape count (meaning.Shaped space.Array dimensions) h w s = absurd (false≢true h)
fitting_shape count (meaning.Shaped space.Template dimensions) h w s = absurd (false≢true h)
fitting_shape count (meaning.Shaped space.Arrangement dimensions) h w s =
    let there = is_there dimensions.shape w in
    let sound : IsSoundShape space.Arrangement dimensions.count there.0 = subst (λ o. IfSome o (IsSoundShape space.Arrangement dimensions.count)) there.1 s in
    record { target = there.0; has = there.1; over = sym (eqb-true dimensions.count count h) ∙ sym sound.size }
fitting_shape count (meaning.Constant v) h w s = absurd (false≢true h)
fitting_shape count (meaning.List vs) h w s = absurd (false≢true h)

freely : (names : List Name) (x : Name) → IsFree x → free_shape names x ≡ meaning_shape x.meaning
freely names x free = rw free.free refl

pub counted : (count : ℕ) (spot : Spot) (o : Option (List Span)) (spans : List Span) → o ≡ Some spans → count_differs count spot o ≡ [] → count ≡ length spans
counted count spot o spans is h =
    let none : breach_if (not (count == length spans)) Rank spot.at ≡ [] = subst (λ s. count_differs count spot s ≡ []) is h in
    eqb-true count (length spans) (turned (count == length spans) (breach_if_none _ _ spot.at none))
  where
    turned : (b : Bool) → not b ≡ false → b ≡ true
    turned true h = refl
    turned false h = sym h

some_distributee : (names : List Name) (nothing : Bool) (distributees : List Spot) (spot : Spot) → Contains distributees spot → cond nothing (first_breach names distributees) [] ≡ [] → nothing ≡ false
some_distributee names true [] spot has h = absurd (contains_none spot has)
some_distributee names true (d ∷ distributees) spot has h = absurd cc
some_distributee names false distributees spot has h = refl

-- ---- the ways of a text without a breach

on_cycle_where : (a b : Bool) → a ≡ true → b ≡ true → (a && b) ≡ true
on_cycle_where true b h k = k
on_cycle_where false b h k = h

module _ (need : Need) (items : List ItemTree) (none : AreNone need items) (free : All IsFree (names_of items)) where
  abbrev pub names : List Name
  names = names_of items

  abbrev pub ways : List Way
  ways = ways_of names items

  -- no walk ends on a cycle
  pub ends : (n : ℕ) → leads_on (way_at ways (walk_end ways n)) ≡ false
  unfolding is_on_cycle
  ends n = by (leads_on (way_at ways (walk_end ways n))) refl where
    by : (b : Bool) → leads_on (way_at ways (walk_end ways n)) ≡ b → leads_on (way_at ways (walk_end ways n)) ≡ false
    by false e = e
    by true e =
        let m : ℕ = walk_end ways n in
        let round = end_on_cycle ways n m (sym (walk-iterate ways (length ways) n)) e in
        let on : is_on_cycle ways m ≡ true = on_cycle_where (leads_on (way_at ways m)) _ e round in
        let first = mapped_by names items m (leads_mapped (way_at ways m) e) in
        let told : cycle_breaches ways first.used ≡ [] = each_empty (cycle_breaches ways) (first_uses names items) none.cycles first.used first.counts in
        absurd (false≢true (sym (breach_if_none (is_on_cycle ways first.used.name) _ first.used.at told) ∙ ap (is_on_cycle ways) first.name ∙ on))

  -- an item has no breach in its uses of names
  pub uses_free : (k : ℕ) (item : ItemTree) → slice_get items k ≡ Some item → item_use_breaches names item ≡ []
  uses_free k item said = each_empty (item_use_breaches names) items none.uses item (contains_get items k item said)

  -- a base of which a way tells nothing would have a breach
  aligned_on : (n k : ℕ) → way_at ways n ≡ Aligned k None → ⊥
  aligned_on n k is =
      let a : IsAlignee names items n k None = says names items n (Aligned k None) is refl in
      let used : use_breaches role.Mapped a.base.at (known names a.base.word) ≡ [] = others_empty _ _ (uses_free k _ a.said) in
      let found = used_free names role.Mapped a.base.at a.base.word free used in
      none_some found.place (used_place names role.Mapped a.base.word) a.with found.used

  -- the end of a walk is distributed, where it is mapped
  pub distributed_end : (n : ℕ) → is_unmapped (way_at ways (walk_end ways n)) ≡ false → (k : ℕ) × (way_at ways (walk_end ways n) ≡ Distributed k)
  distributed_end n h = by (way_at ways (walk_end ways n)) refl where
    by : (w : Way) → way_at ways (walk_end ways n) ≡ w → (k : ℕ) × (way_at ways (walk_end ways n) ≡ Distributed k)
    by Unmapped e = absurd (false≢true (sym h ∙ ap is_unmapped e))
    by (Distributed k) e = (k, e)
    by (Aligned k None) e = absurd (aligned_on (walk_end ways n) k e)
    by (Aligned k (Some b)) e = absurd (false≢true (sym (ends n) ∙ ap leads_on e))

  -- ---- the lines of a pipeline

  line_used : (item : ItemTree) (spot : Spot) → Contains (line_of item) spot → item_use_breaches names item ≡ [] → use_breaches role.Array spot.at (known names spot.word) ≡ []
  line_used (Input at name buffers op) spot has none = subst (λ (s : Spot). use_breaches role.Array s.at (known names s.word) ≡ []) (contains_only name spot has) none
  line_used (Stage at name permute buffers op) spot has none = subst (λ (s : Spot). use_breaches role.Array s.at (known names s.word) ≡ []) (contains_only name spot has) none
  line_used (ImplicitNone at) spot has none = absurd (contains_none spot has)
  line_used (Variables common declared) spot has none = absurd (contains_none spot has)
  line_used (Constants common declared) spot has none = absurd (contains_none spot has)
  line_used (Processors declared) spot has none = absurd (contains_none spot has)
  line_used (Template declared) spot has none = absurd (contains_none spot has)
  line_used (Distribute distributees formats onto) spot has none = absurd (contains_none spot has)
  line_used (Align alignees sources base subs) spot has none = absurd (contains_none spot has)
  line_used (Shadow shadowed widths) spot has none = absurd (contains_none spot has)

  bases_none : flat_map (base_breaches names ways) (lines items) ≡ []
  unfolding pipeline_breaches
  bases_none = others_empty _ _ (first_empty _ _ none.pipeline)

  -- the array of a line, and the statement that distributes its ultimate base
  pub record IsLine (spot : Spot) : Type 0 where
    pub place : ℕ
    pub statement : ℕ
    pub used : used_place names role.Array spot.word ≡ Some place
    pub distributed : way_at ways (walk_end ways place) ≡ Distributed statement

  pub line_is : (spot : Spot) → Contains (lines items) spot → IsLine spot
  line_is spot has =
      let r = contains_from_flat_map line_of items spot has in
      let told = line_used r.0 spot r.2 (each_empty (item_use_breaches names) items none.uses r.0 r.1) in
      let found = used_free names role.Array spot.at spot.word free told in
      let base : base_breaches names ways spot ≡ [] = each_empty (base_breaches names ways) (lines items) bases_none spot has in
      let mapped : breach_if (has_unmapped_base ways found.place) Pipeline spot.at ≡ [] = subst (λ o. base_of spot o ≡ []) found.used base in
      let d = distributed_end found.place (breach_if_none (has_unmapped_base ways found.place) _ spot.at mapped) in
      record { place = found.place; statement = d.0; used = found.used; distributed = d.1 }
    where
      base_of : Spot → Option ℕ → List MapRefusal
      base_of s None = []
      base_of s (Some n) = breach_if (has_unmapped_base ways n) Pipeline s.at

  -- ---- what is mapped

  -- the images of an alignee, as its statement says them
  record ClearImages (sources : Option (List SourceItem)) (subs : Option (List SubTree)) (k : ℕ) (array space : List Span) : Type 0 where
    said : List Subscript
    images : List Image
    said_there : at_place k (all_subscripts items) ≡ Some said
    are : images_between sources subs (Some said) (Some array) (Some space) ≡ Some (Some images)
    aligned : AreAligned array space images

  clear_images : (n k b : ℕ) (a : IsAlignee names items n k (Some b)) (array space : List Span) → shape_of names role.Array a.spot.word ≡ Some array → shape_of names role.Mapped a.base.word ≡ Some space
      → ClearImages a.sources a.subs k array space
  unfolding align_breaches
  clear_images n k b a array space has_array has_space =
      let f = said_fit items k a.alignees a.sources a.base a.subs none.layers a.said in
      let told : align_breaches names (Align a.alignees a.sources a.base a.subs) (at_place k (all_subscripts items)) ≡ [] = each_with_empty (align_breaches names) items (all_subscripts items) none.aligns k _ a.said in
      let said : align_breaches names (Align a.alignees a.sources a.base a.subs) (Some f.0) ≡ [] = subst (λ o. align_breaches names (Align a.alignees a.sources a.base a.subs) o ≡ []) f.1 told in
      let own = each_empty (alignee_breaches names a.sources a.base a.subs (Some f.0)) a.alignees (others_empty _ _ said) a.spot a.stands in
      let c = images_clear names a.sources a.base a.subs f.0 a.spot array space (names_of_sound items) own (first_empty _ _ said) has_array has_space f.2 f.3 in
      record { said = f.0; images = c.0; said_there = f.1; are = c.1; aligned = c.2 }

  pub aligned_with : (n k b : ℕ) → way_at ways n ≡ Aligned k (Some b) → AlignedAt names (direct_images names items ways) n b
  aligned_with n k b is =
      let a : IsAlignee names items n k (Some b) = says names items n (Aligned k (Some b)) is refl in
      let u = used_is names role.Array a.spot.word n a.name in
      let v = used_is names role.Mapped a.base.word b a.with in
      let array = array_shaped u.name.meaning u.suits (free_at names role.Array a.spot.word n free u).whole in
      let space = mapped_shaped v.name.meaning v.suits (free_at names role.Mapped a.base.word b free v).whole in
      let array_there : name_shape names n ≡ Some array.0 = shape_there names n u.name u.there ∙ array.1 in
      let space_there : name_shape names b ≡ Some space.0 = shape_there names b v.name v.there ∙ space.1 in
      let c = clear_images n k b a array.0 space.0 (same_shape names role.Array a.spot.word n u ∙ array_there) (same_shape names role.Mapped a.base.word b v ∙ space_there) in
      record {
        images = c.images;
        shape = array.0;
        root = space.0;
        listed = listed_images names items ways n (Aligned k (Some b)) u.below is ∙ ap Some (by_parts names items k n b a.alignees a.sources a.base a.subs c.said array.0 space.0 c.images a.said c.said_there array_there space_there c.are);
        has_shape = array_there;
        has_root = space_there;
        aligned = c.aligned;
      }

  pub distributed_shape : (n k : ℕ) → way_at ways n ≡ Distributed k → (spans : List Span) × (name_shape names n ≡ Some spans)
  distributed_shape n k is =
      let d : IsDistributee names items n k = says names items n (Distributed k) is refl in
      let u = used_is names role.Mapped d.spot.word n d.name in
      let s = mapped_shaped u.name.meaning u.suits (free_at names role.Mapped d.spot.word n free u).whole in
      (s.0, shape_there names n u.name u.there ∙ s.1)

  -- the arrangement onto which a statement distributes
  pub target_is : (distributees : List Spot) (formats : List FormatTree) (onto : Option Spot) (spot : Spot) → Contains distributees spot
      → target_breaches names distributees formats onto ≡ [] → onto_breaches names onto ≡ [] → IsTarget (divided formats) (target_shape names formats onto)
  unfolding target_breaches target
  target_is distributees formats (Some o) spot has told used =
      let found = used_free names role.Target o.at o.word free used in
      let u = used_is names role.Target o.word found.place found.used in
      let is_free = free_at names role.Target o.word found.place free u in
      let shaped = target_shaped u.name.meaning u.suits is_free.whole in
      let there : shape_of names role.Target o.word ≡ Some shaped.0 = rw u.used shaped.1 in
      record {
        target = shaped.0;
        has = ap (option_and_then (free_shape names)) u.used ∙ freely names u.name is_free ∙ shaped.1;
        over = counted (divided formats) o (shape_of names role.Target o.word) shaped.0 there told;
      }
  target_is distributees formats None spot has told used =
      let some : nothing_fits names formats ≡ false = some_distributee names (nothing_fits names formats) distributees spot has told in
      let any : list_any (fits (divided formats)) names ≡ true = sym (none_broken (divided formats) names free) ∙ turned (list_any (λ n. is_broken n || fits (divided formats) n) names) some in
      let p = passed (fits (divided formats)) names any in
      let is_free = contained IsFree names p.item free p.stands in
      let fit = fitting_shape (divided formats) p.item.meaning p.passes is_free.whole (contained (λ n. IsSoundMeaning n.meaning) names p.item (names_of_sound items) p.stands) in
      record {
        target = fit.target;
        has = ap (option_and_then (free_shape names)) p.found ∙ freely names p.item is_free ∙ fit.has;
        over = fit.over;
      }
    where
      turned : (b : Bool) → not b ≡ false → b ≡ true
      turned true h = refl
      turned false h = sym h

  pub clear : AreClear names ways (direct_images names items ways)
  clear = record {
    sound = λ n spans has. (good names n spans (names_of_sound items) has).sound;
    short = λ n spans has. (good names n spans (names_of_sound items) has).few;
    distributed = distributed_shape;
    aligned = aligned_with;
  }
