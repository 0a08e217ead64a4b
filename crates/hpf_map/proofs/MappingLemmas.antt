-- The mapping of an array that is made of the shapes of names has the owners that the statements give.
use Rattle.std.proofs.Common.{◌≡◌, ℕ, zero, suc, ◌<◌, ◌≤◌, Bool, true, false, cond, ◌&&◌, List, [], ◌∷◌, length, map, get_or, All, Option, Some, None, ℤ, arith, sym, ap, ◌∙◌, subst, refl}
use Rattle.std.specs.Prelude.{IfSome, ◌↔◌, IsTrue, slice_get, option_map, option_and_then}
use Rattle.std.specs.List.{find}
use Rattle.std.proofs.lemmas.Bool.{false≢true, and_parts}
use Rattle.std.proofs.lemmas.List.{length-map}
use Rattle.std.proofs.lemmas.List.Elements.{All-head, All-tail}
use Rattle.hpf_own.specs.Mapping.{PlainMapping}
use Rattle.hpf_own.specs.Owners.{owns}
use Rattle.hpf_own.specs.Space.{product, LiesIn}
use Rattle.hpf_own.specs.declared.image.Image.{Image}
use Rattle.hpf_own.specs.declared.widths.Width.{Width}
use Rattle.hpf_syntax.specs.Plain.{FormatTree, ItemTree}
use Rattle.hpf_syntax.specs.declared.tree.Spot.{Spot}
use Rattle.hpf_map.specs.declared.name.Dimensions.{Dimensions}
use Rattle.hpf_map.specs.declared.name.Meaning.{Meaning}
use Rattle.hpf_map.specs.declared.name.Meaning.TheVariants as meaning
use Rattle.hpf_map.specs.declared.name.Name.{Name}
use Rattle.hpf_map.specs.declared.name.Space.{Space}
use Rattle.hpf_map.specs.declared.name.Space.TheVariants as space
use Rattle.hpf_map.specs.declared.name.Span.{Span}
use Rattle.hpf_map.specs.declared.role.Role.TheVariants as role
use Rattle.hpf_map.specs.Composed.{AreImages}
use Rattle.hpf_map.specs.Dealing.{Dealt}
use Rattle.hpf_map.specs.Distributions.{divided, is_arrangement, fits, fits_meaning, target, free_shape, target_shape}
use Rattle.hpf_map.specs.Known.{known, is_named}
use Rattle.hpf_map.specs.Landings.{IsLanding}
use Rattle.hpf_map.specs.Mapped.{CanBeCut, CanBeMapped, IsMapped, CanMap}
use Rattle.hpf_map.specs.Ownership.{shape_at, dealing_by, sizes_of, sizes_by, Owns, IsMappingOf}
use Rattle.hpf_map.specs.Shaded.{IsShadow}
use Rattle.hpf_map.specs.Shadows.{shadow_at}
use Rattle.hpf_map.specs.Shapes.{extent, extent_limit, max_extent}
use Rattle.hpf_map.specs.Sound.{IsSoundSpan, IsSoundShape, IsSoundMeaning, AreSoundNames}
use Rattle.hpf_map.specs.Spaces.{run_of, meaning_shape, fit}
use Rattle.hpf_map.specs.Uses.{suits}
use Rattle.hpf_map.proofs.DimLemmas.{cut_images}
use Rattle.hpf_map.proofs.LandingLemmas.{same_some}
use Rattle.hpf_map.proofs.OwnerLemmas.{owners_are}

-- ---- options and lists

if_some : {A : Type 0} (P : A → Type 0) (o : Option A) (x : A) → IfSome o P → o ≡ Some x → P x
if_some P o x h is = subst (λ p. IfSome p P) is h

at_name : (P : Name → Type 0) (names : List Name) (k : ℕ) (n : Name) → All P names → slice_get names k ≡ Some n → P n
at_name P [] k n h is = absurd cc
at_name P (m ∷ names) zero n h is = let same : m ≡ n = cc in subst P same (All-head P m names h)
at_name P (m ∷ names) (suc k) n h is = at_name P names k n (All-tail P m names h) is

-- an item that is found passes the test, and has what all items have
found_has : {A : Type 0} (P : A → Type 0) (p : A → Bool) (xs : List A) → All P xs → IfSome (find p xs) (λ x. P x × (p x ≡ true))
found_has P p [] h = tt
found_has P p (x ∷ xs) h = by (p x) refl (found_has P p xs (All-tail P x xs h)) where
  by : (b : Bool) → p x ≡ b → IfSome (find p xs) (λ y. P y × (p y ≡ true)) → IfSome (cond b (Some x) (find p xs)) (λ y. P y × (p y ≡ true))
  by true e later = (All-head P x xs h, e)
  by false e later = later

-- ---- shapes

whole_shape : (what : Space) (count : ℕ) (spans : List Span) → IsSoundShape what count spans → IsSoundShape what (length spans) spans
whole_shape what count spans h = record {
  size = refl;
  some = omega (arith, h.size, h.some);
  few = omega (arith, h.size, h.few);
  each = h.each;
  fits = h.fits;
}

limit_below : (what : Space) → extent_limit what ≤ max_extent
limit_below space.Array = omega arith
limit_below space.Template = omega arith
limit_below space.Arrangement = omega arith

abbrev pub AreSoundSpans : List Span → Type 0
AreSoundSpans spans = All (IsSoundSpan max_extent) spans

wide_spans : (what : Space) (spans : List Span) → All (IsSoundSpan (extent_limit what)) spans → AreSoundSpans spans
wide_spans what spans h k d below =
    let s : IsSoundSpan (extent_limit what) (get_or spans k d) = h k d below in
    record { sound = s.sound; extent = omega (arith, s.extent, limit_below what) }

meaning_spans : (m : Meaning) → IsSoundMeaning m → IfSome (meaning_shape m) AreSoundSpans
meaning_spans meaning.Scalar h = tt
meaning_spans (meaning.Shaped what d) h = by d.shape h where
  by : (o : Option (List Span)) → IfSome o (IsSoundShape what d.count) → IfSome o AreSoundSpans
  by None k = tt
  by (Some spans) k = wide_spans what spans k.each
meaning_spans (meaning.Constant v) h = tt
meaning_spans (meaning.List values) h = tt

-- the shape of a meaning that is an array's or an arrangement's
abbrev pub IsShapeOf : Space → List Span → Type 0
IsShapeOf what spans = IsSoundShape what (length spans) spans

shaped : (what : Space) (d : Dimensions) → IsSoundMeaning (meaning.Shaped what d) → IfSome d.shape (IsShapeOf what)
shaped what d h = by d.shape h where
  by : (o : Option (List Span)) → IfSome o (IsSoundShape what d.count) → IfSome o (IsShapeOf what)
  by None k = tt
  by (Some spans) k = whole_shape what d.count spans k

arrangement_shape : (m : Meaning) → IsSoundMeaning m → is_arrangement m ≡ true → IfSome (meaning_shape m) (IsShapeOf space.Arrangement)
arrangement_shape meaning.Scalar h is = tt
arrangement_shape (meaning.Shaped space.Array d) h is = absurd (false≢true is)
arrangement_shape (meaning.Shaped space.Template d) h is = absurd (false≢true is)
arrangement_shape (meaning.Shaped space.Arrangement d) h is = shaped space.Arrangement d h
arrangement_shape (meaning.Constant v) h is = tt
arrangement_shape (meaning.List values) h is = tt

-- ---- the arrangement that is distributed onto

abbrev IsTarget : Name → Type 0
IsTarget n = IsSoundMeaning n.meaning × (is_arrangement n.meaning ≡ true)

suited : (m : Meaning) → suits role.Target m ≡ true → is_arrangement m ≡ true
suited meaning.Scalar h = h
suited (meaning.Shaped space.Array d) h = h
suited (meaning.Shaped space.Template d) h = h
suited (meaning.Shaped space.Arrangement d) h = refl
suited (meaning.Constant v) h = h
suited (meaning.List values) h = h

fitting : (count : ℕ) (m : Meaning) → fits_meaning count m ≡ true → is_arrangement m ≡ true
fitting count meaning.Scalar h = h
fitting count (meaning.Shaped space.Array d) h = h
fitting count (meaning.Shaped space.Template d) h = h
fitting count (meaning.Shaped space.Arrangement d) h = refl
fitting count (meaning.Constant v) h = h
fitting count (meaning.List values) h = h

used_target : (o : Option Name) → IfSome o (λ n. IsSoundMeaning n.meaning) → IfSome (option_and_then (fit role.Target) o) IsTarget
used_target None h = tt
used_target (Some n) h = by (n.free && suits role.Target n.meaning) refl where
  by : (b : Bool) → (n.free && suits role.Target n.meaning) ≡ b → IfSome (cond b (Some n) None) IsTarget
  by true e = (h, suited n.meaning (and_parts n.free (suits role.Target n.meaning) e).1)
  by false e = tt

weaker : {A : Type 0} (P Q : A → Type 0) → ((x : A) → P x → Q x) → (o : Option A) → IfSome o P → IfSome o Q
weaker P Q f None h = tt
weaker P Q f (Some x) h = f x h

known_sound : (names : List Name) (word : List ℕ) → AreSoundNames names → IfSome (known names word) (λ n. IsSoundMeaning n.meaning)
unfolding known
known_sound names word h =
    weaker (λ n. IsSoundMeaning n.meaning × (is_named word n ≡ true)) (λ n. IsSoundMeaning n.meaning) (λ n k. k.0) (find (is_named word) names)
    (found_has (λ n. IsSoundMeaning n.meaning) (is_named word) names h)

target_is : (names : List Name) (formats : List FormatTree) (onto : Option Spot) → AreSoundNames names → IfSome (target names formats onto) IsTarget
unfolding target
target_is names formats (Some onto) h = used_target (known names onto.word) (known_sound names onto.word h)
target_is names formats None h =
    weaker (λ n. IsSoundMeaning n.meaning × (fits (divided formats) n ≡ true)) IsTarget (λ n k. (k.0, fitting (divided formats) n.meaning k.1)) (find (fits (divided formats)) names)
    (found_has (λ n. IsSoundMeaning n.meaning) (fits (divided formats)) names h)

free_target : (names : List Name) (o : Option Name) → IfSome o IsTarget → IfSome (option_and_then (free_shape names) o) (IsShapeOf space.Arrangement)
free_target names None h = tt
free_target names (Some n) h = by n.free where
  by : (b : Bool) → IfSome (cond b (meaning_shape n.meaning) None) (IsShapeOf space.Arrangement)
  by true = arrangement_shape n.meaning h.0 h.1
  by false = tt

pub target_sound : (names : List Name) (formats : List FormatTree) (onto : Option Spot) (spans : List Span) → AreSoundNames names → target_shape names formats onto ≡ Some spans
    → IsShapeOf space.Arrangement spans
target_sound names formats onto spans h is =
    if_some (IsShapeOf space.Arrangement) (target_shape names formats onto) spans (free_target names (target names formats onto) (target_is names formats onto h)) is

pub root_sound : (names : List Name) (items : List ItemTree) (base : ℕ) (root : List Span) → AreSoundNames names → shape_at names items base ≡ Some root → AreSoundSpans root
root_sound names items base root h is = if_some AreSoundSpans (shape_at names items base) root (by (slice_get names base) refl) is where
  by : (o : Option Name) → slice_get names base ≡ o → IfSome (option_and_then (λ n. meaning_shape n.meaning) o) AreSoundSpans
  by None e = tt
  by (Some n) e = meaning_spans n.meaning (at_name (λ m. IsSoundMeaning m.meaning) names base n h e)

-- ---- the shapes that a mapping is made of

-- what is found of an array, its ultimate base and a statement
pub record Shapes (names : List Name) (items : List ItemTree) (array base statement : ℕ) (shape root : List Span) (dealt : Dealt) : Type 0 where
  pub has_shape : shape_at names items array ≡ Some shape
  pub has_root : shape_at names items base ≡ Some root
  pub has_dealing : dealing_by names items statement ≡ Some dealt

-- as the code finds them
pub found : (names : List Name) (items : List ItemTree) (array base statement : ℕ) (shape root : List Span) (dealt : Dealt) → Some shape ≡ shape_at names items array → Some root ≡ shape_at names items base
    → Some dealt ≡ dealing_by names items statement → Shapes names items array base statement shape root dealt
found names items array base statement shape root dealt first last by = record { has_shape = sym first; has_root = sym last; has_dealing = sym by }

-- the shape of an array that can be mapped
pub array_sound : (names : List Name) (items : List ItemTree) (array base statement : ℕ) (images : List Image) → CanMap names items array base statement images → (shape : List Span)
    → shape_at names items array ≡ Some shape → IsShapeOf space.Array shape
array_sound names items array base statement images can shape has =
    let d = can.is_array.dimensions in
    let sound : IsSoundMeaning can.name.meaning = at_name (λ n. IsSoundMeaning n.meaning) names array can.name can.sound can.named in
    let there : option_and_then (λ n. meaning_shape n.meaning) (Some can.name) ≡ Some shape = sym (ap (option_and_then (λ (n : Name). meaning_shape n.meaning)) can.named) ∙ has in
    let is : d.shape ≡ Some shape = sym (ap meaning_shape can.is_array.is) ∙ there in
    if_some (IsShapeOf space.Array) d.shape shape (shaped space.Array d (subst IsSoundMeaning can.is_array.is sound)) is

module _ (names : List Name) (items : List ItemTree) (array base statement : ℕ) (images : List Image) (shape root : List Span) (dealt : Dealt)
    (can : CanMap names items array base statement images) (have : Shapes names items array base statement shape root dealt) where
  is_root : can.distributed.root ≡ root
  is_root = same_some (shape_at names items base) can.distributed.root root can.distributed.has_root have.has_root

  is_dealt : can.distributed.dealt ≡ dealt
  is_dealt = same_some (dealing_by names items statement) can.distributed.dealt dealt can.distributed.said have.has_dealing

  cut : CanBeCut dealt root
  cut = subst (λ r. CanBeCut dealt r) is_root (subst (λ d. CanBeCut d can.distributed.root) is_dealt can.distributed.cut)

  array_is : IsShapeOf space.Array shape
  array_is = array_sound names items array base statement images can shape have.has_shape

  images_are : AreImages shape root images
  images_are =
      let l = can.landing in
      let first : l.shape ≡ shape = same_some (shape_at names items array) l.shape shape l.has_shape have.has_shape in
      let last : l.root ≡ root = same_some (shape_at names items base) l.root root l.has_root have.has_root in
      subst (λ r. AreImages shape r images) last (subst (λ s. AreImages s l.root images) first l.images_are)

  -- from these shapes a mapping can be made
  pub shapes_map : CanBeMapped shape root dealt images
  shapes_map = record { array_is = array_is; cut = cut; images_are = images_are }

  sizes_are : sizes_by names items statement ≡ map extent dealt.target
  unfolding sizes_by
  sizes_are = ap (sizes_of names items) have.has_dealing

  -- the owners by a landing with the images of the dimensions
  abbrev OwnersAre : PlainMapping → List Image → Type 0
  OwnersAre m others = (landing : IsLanding names items array base statement others) (p : ℕ) (index : List ℤ) → p < product m.procs → LiesIn (map run_of landing.shape) index
      → IsTrue (owns m p index) ↔ Owns names items array p index

  -- the mapping that is made of them is that of the array
  pub shapes_mapping : (shadow : List Width) → IsShadow names items array (length shape) shadow → (m : PlainMapping) → IsMapped shape root dealt images shadow m
      → IsMappingOf names items array base statement m
  shapes_mapping shadow shaded m is =
      let l = can.landing in
      let sizes = map extent dealt.target in
      let long : length m.bounds ≡ length shape = ap length is.bounds ∙ length-map shape run_of in
      let first : l.shape ≡ shape = same_some (shape_at names items array) l.shape shape l.has_shape have.has_shape in
      record {
        bounds = ap (option_map (map run_of)) have.has_shape ∙ ap Some (sym is.bounds);
        shadow = ap (shadow_at names items array) long ∙ shaded.is ∙ ap Some (sym is.widths);
        procs = is.procs ∙ sym sizes_are;
        owners = λ p index below lies. subst (OwnersAre m) (cut_images dealt root images m.dims cut is.dims images_are.size)
            (λ landing q i under within. owners_are names items array base statement q root sizes dealt images m.dims m i landing have.has_dealing have.has_root sizes_are is.dims cut.rank refl is.procs
            (subst (λ (ns : List ℕ). q < product ns) is.procs under) within)
            l p index below (subst (λ s. LiesIn (map run_of s) index) (sym first) (subst (λ bs. LiesIn bs index) is.bounds lies));
      }
