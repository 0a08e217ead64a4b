-- The dimensions of a base that is cut by formats, with the images of an array in them.
use Rattle.std.proofs.Common.{◌≡◌, ℕ, zero, suc, ◌+◌, ◌-◌, ◌*◌, ◌^◌, ◌<◌, ◌≤◌, Bool, true, false, List, [], ◌∷◌, length, map, get_or, All, Option, Some, None, inl, inr, ℤ, pos, ◌+ℤ◌, ◌*ℤ◌, ◌-ℤ◌, ◌≤ℤ◌, ◌<ℤ◌, unsigned_abs, arith, sym, ap, ◌∙◌, subst, refl, eq-eqb}
use Rattle.std.specs.Prelude.{slice_get}
use Rattle.std.specs.List.{filter}
use Rattle.std.proofs.lemmas.Bool.{cases_Bool, cases_lt, cond-true, cond-false, eqb-true, false≢true}
use Rattle.std.proofs.lemmas.Int.{ints, unsigned_abs-mul}
use Rattle.std.proofs.lemmas.Nat.{mul-le}
use Rattle.std.proofs.lemmas.List.{get_or_default, get_or-map, ext_get_or, length-map}
use Rattle.std.proofs.lemmas.List.Elements.{Contains-get_or}
use Rattle.hpf_dist.specs.Axis.{Divided, AreProcs}
use Rattle.hpf_dist.specs.declared.format.Format.{Format}
use Rattle.hpf_dist.specs.Spread.{IsPosition, spread}
use Rattle.hpf_num.specs.declared.run.Run.{Run}
use Rattle.hpf_own.specs.Image.{subscript}
use Rattle.hpf_own.specs.Mapping as mapping
use Rattle.hpf_own.specs.Mapping.{AreDims, FollowsBelow, follows, DividedBelow, HasSizeOf, StaysWithin, HasSmallCoefficients, HasSome}
use Rattle.hpf_own.specs.declared.image.BaseDim.{BaseDim}
use Rattle.hpf_own.specs.declared.image.Cut.{Cut}
use Rattle.hpf_own.specs.declared.image.Cut.TheVariants.{Whole, Over}
use Rattle.hpf_own.specs.declared.image.Image.{Image}
use Rattle.hpf_own.specs.declared.image.Image.TheVariants.{Along, Fixed, Spread}
use Rattle.hpf_syntax.specs.declared.tree.FormatItem.{FormatItem}
use Rattle.hpf_syntax.specs.Plain.{FormatTree, format_tree, Star, Block, Cyclic, GenBlock, Indirect}
use Rattle.hpf_map.specs.declared.name.Name.{Name}
use Rattle.hpf_map.specs.declared.name.Space.TheVariants.{Arrangement}
use Rattle.hpf_map.specs.declared.name.Span.{Span}
use Rattle.hpf_map.specs.Alignments.{no_span}
use Rattle.hpf_map.specs.Composed.{no_image, IsIn, Stays, AreImages, AreSound}
use Rattle.hpf_map.specs.Cuts.{axis_of, IsMet, MeetsAll, MeetsOf, cut_with, cut_at}
use Rattle.hpf_map.specs.Dealing.{Dealt, over, target_at, dealt_as, format_at}
use Rattle.hpf_map.specs.Distributions.{divides, divided}
use Rattle.hpf_map.specs.Formats.{format_of}
use Rattle.hpf_map.specs.Mapped.{no_dim, cut_dim, AreCut, CanBeCut, CanBeMapped}
use Rattle.hpf_map.specs.Paired.{at_place}
use Rattle.hpf_map.specs.Shapes.{extent, max_extent}
use Rattle.hpf_map.specs.Sound.{IsSoundSpan, IsSoundShape}
use Rattle.hpf_map.specs.Spaces.{run_of}
use Rattle.hpf_map.proofs.ComposedLemmas.{times_more}
use Rattle.hpf_map.proofs.MappedLemmas.{array_sound, target_sizes, dim_procs}
use Rattle.hpf_map.proofs.MoveLemmas.{near_lower, near_upper}
use Rattle.hpf_map.proofs.OverLemmas.{over_below, over_grows, over_found}
use Rattle.hpf_map.proofs.PlainLemmas.{lies_at}
use lib.IntN.{*ℤ-one}

-- ---- how many items pass a test

none_pass : {A : Type 0} (p : A → Bool) (xs : List A) (d : A) → ((k : ℕ) → k < length xs → p (get_or xs k d) ≡ true → ⊥) → length (filter p xs) ≡ 0
none_pass p [] d h = refl
none_pass p (x ∷ xs) d h = elim (cases_Bool (p x)) [
  | inl e ↦ absurd (h 0 (omega arith) e)
  | inr e ↦ ap length (cond-false (p x) (x ∷ filter p xs) (filter p xs) e) ∙ none_pass p xs d (λ k below t. h (suc k) (omega arith) t)
]

-- where two that pass are the same, one passes at most
one_passes : {A : Type 0} (p : A → Bool) (xs : List A) (d : A)
    → ((e f : ℕ) → e < length xs → f < length xs → p (get_or xs e d) ≡ true → p (get_or xs f d) ≡ true → e ≡ f) → length (filter p xs) ≤ 1
one_passes p [] d h = omega arith
one_passes p (x ∷ xs) d h = elim (cases_Bool (p x)) [
  | inl e ↦
      let none : length (filter p xs) ≡ 0 = none_pass p xs d (λ k below t. let same : 0 ≡ suc k = h 0 (suc k) (omega arith) (omega arith) e t in absurd (omega arith)) in
      omega (arith, ap length (cond-true (p x) (x ∷ filter p xs) (filter p xs) e))
  | inr e ↦
      let later : length (filter p xs) ≤ 1 = one_passes p xs d (λ i j below under one other. let same : suc i ≡ suc j = h (suc i) (suc j) (omega arith) (omega arith) one other in omega arith) in
      omega (arith, ap length (cond-false (p x) (x ∷ filter p xs) (filter p xs) e))
]

some_passes : {A : Type 0} (p : A → Bool) (xs : List A) (d : A) (k : ℕ) → k < length xs → p (get_or xs k d) ≡ true → 1 ≤ length (filter p xs)
some_passes p [] d k below h = absurd (omega arith)
some_passes p (x ∷ xs) d zero below h = omega (arith, ap length (cond-true (p x) (x ∷ filter p xs) (filter p xs) h))
some_passes p (x ∷ xs) d (suc k) below h =
    let later : 1 ≤ length (filter p xs) = some_passes p xs d k (omega arith) h in
    elim (cases_Bool (p x)) [
      | inl e ↦ omega (arith, ap length (cond-true (p x) (x ∷ filter p xs) (filter p xs) e))
      | inr e ↦ omega (arith, ap length (cond-false (p x) (x ∷ filter p xs) (filter p xs) e))
    ]

-- ---- an image whose positions are those of a dimension of the base

stays_followed : (array : List Span) (s : Span) (image : Image) → Stays array s image → FollowsBelow (length (map run_of array)) image
stays_followed array s (Along dim a b) h = omega (arith, h.0, length-map array run_of)
stays_followed array s (Fixed n) h = tt
stays_followed array s (Spread first step count) h = tt

stays_some : (array : List Span) (s : Span) (image : Image) → Stays array s image → HasSome image
stays_some array s (Along dim a b) h = tt
stays_some array s (Fixed n) h = tt
stays_some array s (Spread first step count) h = omega (arith, h.0)

on_axis : (s p : Span) (f : Format) (u : ℤ) → IsIn s u → IsPosition (axis_of s p f) u
on_axis s p f u h = record { low = h.least; high = h.greatest }

stays_within : (array : List Span) (s p : Span) (f : Format) (e : ℕ) (image : Image) → Stays array s image → StaysWithin (map run_of array) image (Over e (axis_of s p f))
stays_within array s p f e (Along dim a b) h index lies zero d below =
    on_axis s p f _ (h.2 (subscript index dim) (lies_at array index dim (pos 0) lies h.0))
stays_within array s p f e (Along dim a b) h index lies (suc k) d below = absurd (omega arith)
stays_within array s p f e (Fixed u) h index lies zero d below = on_axis s p f u h
stays_within array s p f e (Fixed u) h index lies (suc k) d below = absurd (omega arith)
stays_within array s p f e (Spread first step count) h index lies k d below =
    on_axis s p f _ (h.1 _ (Contains-get_or (spread first step count) k d below))

-- ---- coefficients

step_is : (a x b : ℤ) → (a *ℤ (x +ℤ pos 1) +ℤ b) -ℤ (a *ℤ x +ℤ b) ≡ a
step_is a x b = rw (times_more a x (pos 1)) (omega (arith, ints, *ℤ-one a))

small_step : (low high u v a : ℤ) → unsigned_abs (high -ℤ low) + 1 ≤ 2147483647 → low ≤ℤ u → u ≤ℤ high → low ≤ℤ v → v ≤ℤ high → v -ℤ u ≡ a → unsigned_abs a ≤ 2 ^ 31 - 2
small_step low high u v a few h k l m is = omega (arith, ints)

small_start : (p b : ℤ) → unsigned_abs p ≤ (2 ^ 31 - 2) * (2 ^ 31 - 1) → unsigned_abs (p +ℤ b) ≤ 2 ^ 31 - 1 → unsigned_abs b ≤ 2 ^ 62
small_start p b h k = omega (arith, ints)

small_in : (low high u : ℤ) → unsigned_abs low ≤ 2 ^ 31 - 1 → unsigned_abs high ≤ 2 ^ 31 - 1 → low ≤ℤ u → u ≤ℤ high → unsigned_abs u ≤ 2 ^ 31 - 1
small_in low high u l h k m = omega (arith, ints)

span_small : (s : Span) (u : ℤ) → IsSoundSpan max_extent s → IsIn s u → unsigned_abs u ≤ 2 ^ 31 - 1
span_small s u is h =
    let near = is.sound.near in
    small_in s.low s.high u (near_lower s.low s.high near.least is.sound.order near.greatest) (near_upper s.low s.high near.least is.sound.order near.greatest) h.least h.greatest

along_small : (array : List Span) (s : Span) (dim : ℕ) (a b : ℤ) → AreSound array → IsSoundSpan max_extent s → Stays array s (Along dim a b) → HasSmallCoefficients (Along dim a b)
along_small array s dim a b sound is stay =
    let d = get_or array dim no_span in
    let several : d.low <ℤ d.high = stay.1 in
    let order : d.low ≤ℤ d.high = omega (arith, ints, several) in
    let here : d.low ≤ℤ d.low = omega (arith, ints) in
    let up : d.low ≤ℤ (d.low +ℤ pos 1) = omega (arith, ints) in
    let next : (d.low +ℤ pos 1) ≤ℤ d.high = omega (arith, ints, several) in
    let first = stay.2 d.low (record { least = here; greatest = order }) in
    let second = stay.2 (d.low +ℤ pos 1) (record { least = up; greatest = next }) in
    let step = small_step s.low s.high _ _ a is.extent first.least first.greatest second.least second.greatest (step_is a d.low b) in
    let near = (sound dim stay.0).near in
    let lower = near_lower d.low d.high near.least order near.greatest in
    let product : unsigned_abs (a *ℤ d.low) ≤ (2 ^ 31 - 2) * (2 ^ 31 - 1) =
    rw (unsigned_abs-mul a d.low) (mul-le (unsigned_abs a) (unsigned_abs d.low) (2 ^ 31 - 2) (2 ^ 31 - 1) step lower) in
    (omega (arith, step), small_start (a *ℤ d.low) b product (span_small s (a *ℤ d.low +ℤ b) is first))

stays_small : (array : List Span) (s : Span) (image : Image) → AreSound array → IsSoundSpan max_extent s → Stays array s image → HasSmallCoefficients image
stays_small array s (Along dim a b) sound is stay = along_small array s dim a b sound is stay
stays_small array s (Fixed n) sound is stay = tt
stays_small array s (Spread first step count) sound is stay = tt

-- ---- the sizes of an arrangement

pub target_procs : (target : List Span) → IsSoundShape Arrangement (length target) target → (k : ℕ) (d : Span) → k < length target → AreProcs (extent (get_or target k d))
target_procs target is k d below =
    let long : length (map extent target) ≡ length target = length-map target extent in
    subst AreProcs (get_or-map extent target k d 0 below) (dim_procs (map extent target) k 0 (target_sizes target is) (omega arith))

-- ---- what a format that is met gives

met_some : (d n : ℕ) (o : Option Format) → IsMet d n o → (f : Format) × (o ≡ Some f)
met_some d n None h = absurd h
met_some d n (Some f) h = (f, refl)

divides_some : (names : List Name) (tree : FormatTree) (w : Option ℤ) (d : ℕ) (p : Span) → divides tree ≡ true → MeetsAll tree d (extent p) (format_of names tree w d p)
    → (f : Format) × (format_of names tree w d p ≡ Some f)
unfolding format_of
divides_some names (Star at) w d p h met = absurd (false≢true h)
divides_some names (Block at None) w d p h met = (_, refl)
divides_some names (Block at (Some e)) w d p h met = met_some d (extent p) _ met
divides_some names (Cyclic at None) w d p h met = (_, refl)
divides_some names (Cyclic at (Some e)) w d p h met = met_some d (extent p) _ met
divides_some names (GenBlock at lengths) w d p h met = met_some d (extent p) _ met
divides_some names (Indirect at places) w d p h met = met_some d (extent p) _ met

some_divides : (names : List Name) (tree : FormatTree) (w : Option ℤ) (d : ℕ) (p : Span) (f : Format) → format_of names tree w d p ≡ Some f → divides tree ≡ true
unfolding format_of
some_divides names (Star at) w d p f is = absurd (let no : None ≡ Some f = is in cc)
some_divides names (Block at e) w d p f is = refl
some_divides names (Cyclic at e) w d p f is = refl
some_divides names (GenBlock at lengths) w d p f is = refl
some_divides names (Indirect at places) w d p f is = refl

-- ---- all dimensions

pub no_format : FormatTree
no_format = Star (record { line = 0; column = 0 })

stands : {A : Type 0} (xs : List A) (n : ℕ) (d : A) → n < length xs → slice_get xs n ≡ Some (get_or xs n d)
stands [] n d below = absurd (omega arith)
stands (x ∷ xs) zero d below = refl
stands (x ∷ xs) (suc n) d below = stands xs n d (omega arith)

-- what is known of a dimension
record IsDim (dealt : Dealt) (root : List Span) (k : ℕ) : Type 0 where
  tree : FormatTree
  is_tree : tree ≡ get_or dealt.formats k no_format
  format : format_at dealt root k ≡ format_of dealt.names tree (at_place k dealt.widths) (extent (get_or root k no_span)) (target_at dealt root k)
  met : MeetsAll tree (extent (get_or root k no_span)) (extent (target_at dealt root k)) (format_of dealt.names tree (at_place k dealt.widths) (extent (get_or root k no_span)) (target_at dealt root k))

module _ (dealt : Dealt) (root : List Span) (can : CanBeCut dealt root) where
  dim_at : (k : ℕ) → k < length root → IsDim dealt root k
  dim_at k below =
      let rank = can.rank in
      let tree : FormatTree = get_or dealt.formats k no_format in
      let there : slice_get dealt.formats k ≡ Some tree = stands dealt.formats k no_format (omega (arith, rank, below)) in
      let is : format_at dealt root k ≡ dealt_as dealt root (Some tree) k = ap (λ o. dealt_as dealt root o k) there in
      let met : MeetsOf dealt root (Some tree) k = subst (λ o. MeetsOf dealt root o k) there (can.met k) in
      record {
        tree = tree;
        is_tree = refl;
        format = is;
        met = subst (MeetsAll tree (extent (get_or root k no_span)) (extent (target_at dealt root k))) is met;
      }

  -- a dimension that is divided has a format that divides, and the other way round
  divided_at : (k : ℕ) (f : Format) → k < length root → format_at dealt root k ≡ Some f → divides (get_or dealt.formats k no_format) ≡ true
  divided_at k f below is =
      let d = dim_at k below in
      ap divides (sym d.is_tree) ∙ some_divides dealt.names d.tree _ _ _ f (sym d.format ∙ is)

  format_there : (k : ℕ) → k < length root → divides (get_or dealt.formats k no_format) ≡ true → (f : Format) × (format_at dealt root k ≡ Some f)
  format_there k below h =
      let d = dim_at k below in
      let r = divides_some dealt.names d.tree _ _ _ (ap divides d.is_tree ∙ h) d.met in
      (r.0, d.format ∙ r.1)

  over_inside : (k : ℕ) (f : Format) → k < length root → format_at dealt root k ≡ Some f → over dealt.formats k < length dealt.target
  over_inside k f below is =
      let rank = can.rank in
      let all = can.over in
      let inside : over dealt.formats k < divided dealt.formats = over_below dealt.formats k no_format (omega (arith, rank, below)) (divided_at k f below is) in
      omega (arith, inside, all)

  -- what holds of a whole dimension and of a divided one holds of each
  by_format : (P : Cut → Type 0) (k : ℕ) → P Whole → ((f : Format) → format_at dealt root k ≡ Some f → P (Over (over dealt.formats k) (axis_of (get_or root k no_span) (target_at dealt root k) f)))
      → P (cut_at dealt root k)
  by_format P k whole divided = by (format_at dealt root k) refl where
    by : (o : Option Format) → format_at dealt root k ≡ o → P (cut_with dealt root o k)
    by None e = whole
    by (Some f) e = divided f e

  -- which dimension of the arrangement it is divided over
  cut_divides : (e k : ℕ) → k < length root → mapping.divides e (cut_at dealt root k) ≡ true → (over dealt.formats k ≡ e) × (divides (get_or dealt.formats k no_format) ≡ true)
  cut_divides e k below =
      by_format (λ c. mapping.divides e c ≡ true → (over dealt.formats k ≡ e) × (divides (get_or dealt.formats k no_format) ≡ true)) k
      (λ h. absurd (false≢true h)) (λ f is h. (eqb-true (over dealt.formats k) e h, divided_at k f below is))

  divides_cut : (k : ℕ) → k < length root → divides (get_or dealt.formats k no_format) ≡ true → mapping.divides (over dealt.formats k) (cut_at dealt root k) ≡ true
  divides_cut k below h =
      let r = format_there k below h in
      ap (λ o. mapping.divides (over dealt.formats k) (cut_with dealt root o k)) r.1 ∙ eq-eqb (over dealt.formats k) (over dealt.formats k) refl

  -- no other dimension is divided over the same one
  over_once : (j k : ℕ) → j < length root → k < length root → divides (get_or dealt.formats j no_format) ≡ true → divides (get_or dealt.formats k no_format) ≡ true
      → over dealt.formats j ≡ over dealt.formats k → j ≡ k
  over_once j k one two first second same =
      let rank = can.rank in
      elim (cases_lt j k) [
        | inl before ↦ absurd (omega (arith, same, over_grows dealt.formats j k no_format before (omega (arith, rank, two)) first))
        | inr not_before ↦ elim (cases_lt k j) [
          | inl behind ↦ absurd (omega (arith, same, over_grows dealt.formats k j no_format behind (omega (arith, rank, one)) second))
          | inr not_behind ↦ omega (arith, not_before, not_behind)
        ]
      ]

-- ---- what the code computes of a dimension

-- the format of a dimension as the code finds it
pub record IsFound (dealt : Dealt) (root : List Span) (k dim : ℕ) (tree : FormatTree) (w : Option ℤ) : Type 0 where
  pub format : format_at dealt root k ≡ format_of dealt.names tree w (extent (get_or root k no_span)) (get_or dealt.target dim no_span)
  pub met : MeetsAll tree (extent (get_or root k no_span)) (extent (get_or dealt.target dim no_span)) (format_of dealt.names tree w (extent (get_or root k no_span)) (get_or dealt.target dim no_span))

pub dim_found : (dealt : Dealt) (root : List Span) (k dim : ℕ) (tree : FormatTree) (w : Option ℤ) → CanBeCut dealt root → k < length root → dim ≡ over dealt.formats k
    → tree ≡ get_or dealt.formats k no_format → w ≡ at_place k dealt.widths → IsFound dealt root k dim tree w
dim_found dealt root k dim tree w can below is_dim is_tree is_w =
    let d = dim_at dealt root can k below in
    let base : IsFound dealt root k (over dealt.formats k) d.tree (at_place k dealt.widths) = record { format = d.format; met = d.met } in
    subst (λ t. IsFound dealt root k dim t w) (d.is_tree ∙ sym is_tree)
    (subst (λ v. IsFound dealt root k dim d.tree v) (sym is_w) (subst (λ e. IsFound dealt root k e d.tree (at_place k dealt.widths)) (sym is_dim) base))

-- a format of the code, as a tree
pub seen_tree : (formats : List FormatItem) (root : List Span) (k : ℕ) (x : FormatItem) → length (map format_tree formats) ≡ length root → k < length root
    → format_tree (get_or formats k x) ≡ get_or (map format_tree formats) k no_format
seen_tree formats root k x rank below = sym (get_or-map format_tree formats k x no_format (let inside : k < length formats = omega (arith, rank, below, length-map formats format_tree) in inside))

pub cut_found : (dealt : Dealt) (root : List Span) (k dim : ℕ) (f : Format) (axis : Divided) → format_at dealt root k ≡ Some f → dim ≡ over dealt.formats k
    → axis ≡ axis_of (get_or root k no_span) (get_or dealt.target dim no_span) f → Over dim axis ≡ cut_at dealt root k
cut_found dealt root k dim f axis is is_dim is_axis =
    ap (Over dim) is_axis ∙ ap (λ e. Over e (axis_of (get_or root k no_span) (get_or dealt.target e no_span) f)) is_dim
    ∙ sym (ap (λ o. cut_with dealt root o k) is)

pub whole_found : (dealt : Dealt) (root : List Span) (k : ℕ) → format_at dealt root k ≡ None → Whole ≡ cut_at dealt root k
whole_found dealt root k is = sym (ap (λ o. cut_with dealt root o k) is)

-- a dimension whose format divides nothing is whole
pub undivided : (dealt : Dealt) (root : List Span) (k : ℕ) → CanBeCut dealt root → k < length root → divides (get_or dealt.formats k no_format) ≡ false → Whole ≡ cut_at dealt root k
undivided dealt root k can below h =
    by_format dealt root can (λ cut. Whole ≡ cut) k refl (λ f is. absurd (false≢true (sym h ∙ divided_at dealt root can k f below is)))

pub dim_inside : (dealt : Dealt) (root : List Span) (k : ℕ) → CanBeCut dealt root → k < length root → divides (get_or dealt.formats k no_format) ≡ true → over dealt.formats k < length dealt.target
dim_inside dealt root k can below h =
    let r = format_there dealt root can k below h in
    over_inside dealt root can k r.0 below r.1

-- ---- all dimensions of a base

module _ (dealt : Dealt) (root : List Span) (images : List Image) (dims : List BaseDim) (can : CanBeCut dealt root) (cut : AreCut dealt root images dims) where
  -- what each dimension has, all have
  each_dim : (P : BaseDim → Type 0) → ((e : ℕ) → e < length root → P (cut_dim dealt root images e)) → All P dims
  each_dim P h k d below =
      let size : length dims ≡ length root = cut.size in
      subst P (sym (get_or_default dims k d no_dim below ∙ cut.each k below)) (h k (omega arith))

  -- the images of the dimensions
  pub cut_images : length images ≡ length root → map (λ d. d.image) dims ≡ images
  cut_images long =
      let size : length dims ≡ length root = cut.size in
      let many : length (map (λ d. d.image) dims) ≡ length dims = length-map dims (λ d. d.image) in
      ext_get_or no_image (map (λ d. d.image) dims) images (omega arith)
      (λ k below. let inside : k < length dims = omega arith in get_or-map (λ d. d.image) dims k no_dim no_image inside ∙ ap (λ d. d.image) (cut.each k inside))

  cut_once : (array : List Span) → AreImages array root images → (e : ℕ) → length (filter (λ d. follows e d.image) dims) ≤ 1
  cut_once array are e =
      let p : BaseDim → Bool = λ d. follows e d.image in
      let size : length dims ≡ length root = cut.size in
      let long : length images ≡ length root = are.size in
      one_passes p dims no_dim
      (λ i j below under one other. are.once e i j (omega arith) (omega arith) (sym (ap p (cut.each i below)) ∙ one) (sym (ap p (cut.each j under)) ∙ other))

  cut_each_once : (e : ℕ) → e < length (map extent dealt.target) → length (filter (λ d. mapping.divides e d.cut) dims) ≡ 1
  cut_each_once e inside =
      let p : BaseDim → Bool = λ d. mapping.divides e d.cut in
      let size : length dims ≡ length root = cut.size in
      let rank = can.rank in
      let all = can.over in
      let long : length (map extent dealt.target) ≡ length dealt.target = length-map dealt.target extent in
      let taken = over_found dealt.formats e no_format (omega (arith, inside, long, all)) in
      let here = taken.below in
      let below : taken.place < length root = omega (arith, here, rank) in
      let place = λ (i : ℕ) (l : i < length dims) (t : p (get_or dims i no_dim) ≡ true).
      cut_divides dealt root can e i (omega (arith, l, size)) (sym (ap p (cut.each i l)) ∙ t) in
      let most : length (filter p dims) ≤ 1 = one_passes p dims no_dim
      (λ i j l m one other. let first = place i l one in let second = place j m other in
      over_once dealt root can i j (omega (arith, l, size)) (omega (arith, m, size)) first.1 second.1 (first.0 ∙ sym second.0)) in
      let passes : p (cut_dim dealt root images taken.place) ≡ true = ap (λ x. mapping.divides x (cut_at dealt root taken.place)) (sym taken.is) ∙ divides_cut dealt root can taken.place below taken.divides in
      let least : 1 ≤ length (filter p dims) = some_passes p dims no_dim taken.place (omega (arith, below, size)) (ap p (cut.each taken.place (omega (arith, below, size))) ∙ passes) in
      omega arith

  -- they are as dimensions of the base of a mapping have to be
  pub cut_are : (array : List Span) → AreSound array → AreImages array root images → AreDims (map run_of array) dims (map extent dealt.target)
  cut_are array sound are =
      let at = λ (e : ℕ). get_or images e no_image in
      let long : length (map extent dealt.target) ≡ length dealt.target = length-map dealt.target extent in
      record {
        followed = each_dim (λ d. FollowsBelow (length (map run_of array)) d.image) (λ e below. stays_followed array (get_or root e no_span) (at e) (are.stay e below));
        once = cut_once array are;
        divided = each_dim (λ d. DividedBelow (length (map extent dealt.target)) d.cut)
            (λ e below. by_format dealt root can (DividedBelow (length (map extent dealt.target))) e tt (λ f is. let inside : over dealt.formats e < length (map extent dealt.target) = omega (arith, long, over_inside dealt root can e f below is) in inside));
        each_once = cut_each_once;
        sizes = each_dim (λ d. HasSizeOf (map extent dealt.target) d.cut)
            (λ e below. by_format dealt root can (HasSizeOf (map extent dealt.target)) e tt (λ f is. sym (get_or-map extent dealt.target (over dealt.formats e) no_span 0 (over_inside dealt root can e f below is))));
        within = each_dim (λ d. StaysWithin (map run_of array) d.image d.cut)
            (λ e below. by_format dealt root can (StaysWithin (map run_of array) (at e)) e (λ index lies. tt)
            (λ f is. stays_within array (get_or root e no_span) (target_at dealt root e) f (over dealt.formats e) (at e) (are.stay e below)));
        coefficients = each_dim (λ d. HasSmallCoefficients d.image) (λ e below. stays_small array (get_or root e no_span) (at e) sound (can.spans_are e no_span below) (are.stay e below));
        some = each_dim (λ d. HasSome d.image) (λ e below. stays_some array (get_or root e no_span) (at e) (are.stay e below));
      }

-- of bounds and sizes that are those of an array and an arrangement
pub mapped_dims : (array root : List Span) (dealt : Dealt) (images : List Image) (bounds : List Run) (sizes : List ℕ) (dims : List BaseDim) → CanBeMapped array root dealt images
    → bounds ≡ map run_of array → sizes ≡ map extent dealt.target → AreCut dealt root images dims → AreDims bounds dims sizes
mapped_dims array root dealt images bounds sizes dims can bounds_are sizes_are cut =
    let are : AreDims (map run_of array) dims (map extent dealt.target) = cut_are dealt root images dims can.cut cut array (array_sound array can.array_is) can.images_are in
    subst (λ bs. AreDims bs dims sizes) (sym bounds_are) (subst (λ ns. AreDims (map run_of array) dims ns) (sym sizes_are) are)
