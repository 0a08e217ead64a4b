-- The images of an array in its ultimate base, from one directive to the next.
use Rattle.std.proofs.Common.{◌≡◌, ℕ, zero, suc, ◌-◌, ◌<◌, true, false, List, [], ◌∷◌, length, map, get_or, Option, Some, None, inl, inr, w32, w64, to_z, of_z, ℤ, pos, ◌+ℤ◌, ◌*ℤ◌, ◌≤ℤ◌, ◌<ℤ◌, arith, sym, ap, ◌∙◌, subst, refl}
use Rattle.std.specs.Prelude.{replicate, Contains, int_lt, All, slice_get, is_some}
use Rattle.std.proofs.lemmas.List.Elements.{All-from_get_or}
use Rattle.std.proofs.lemmas.Bool.{false≢true, eqb-true}
use Rattle.std.proofs.lemmas.Int.{ints}
use Rattle.std.proofs.lemmas.List.{get_or-map, length-map}
use Rattle.hpf_own.specs.Image.{positions, subscript}
use Rattle.hpf_own.specs.Mapping.{FollowsBelow, HasSmallCoefficients, HasSome}
use Rattle.hpf_own.specs.Space.{choices, LiesIn}
use Rattle.hpf_own.specs.declared.image.Image.{Image}
use Rattle.hpf_own.specs.declared.image.Image.TheVariants.{Along, Fixed, Spread}
use Rattle.hpf_syntax.specs.Plain.{ItemTree}
use Rattle.hpf_map.specs.declared.name.Name.{Name}
use Rattle.hpf_map.specs.declared.name.Span.{Span}
use Rattle.hpf_map.specs.declared.landings.Landing.{Landing}
use Rattle.hpf_map.specs.declared.way.Way.{Way}
use Rattle.hpf_map.specs.declared.way.Way.TheVariants.{Unmapped, Distributed, Aligned}
use Rattle.hpf_map.specs.Alignments.{no_span}
use Rattle.hpf_map.specs.Spaces.{run_of}
use Rattle.hpf_map.specs.Ways.{ways_of, way_at, walk, step, step_from, leads_on}
use Rattle.hpf_map.specs.Ownership.{shape_at, images_by, LiesAt, Itself, Through}
use Rattle.hpf_map.specs.Paired.{inner}
use Rattle.hpf_map.specs.Composed.{no_image, IsIn, Stays, AreImages, LiesUnder, CanCompose, composed, IsSound, AreSound, AreAligned, ArePlain}
use Rattle.hpf_map.specs.Landings.{IsSettled, AreSaid, StaysSettled, AreLandings, ComesOf, CanLand, CanGoOn, name_shape, AreClear, Lands, Here, Onward, IsItself, AreThemselves, IsLanding, ShapesAreSound, IsAlignedWith}
use Rattle.hpf_map.proofs.ChoiceLemmas.{IsChoice, choice_in, choice_from, choice_at, choice_length, contains_here, contains_only}
use Rattle.hpf_map.proofs.ComposedLemmas.{composed_images, go_through}
use Rattle.hpf_map.proofs.MoveLemmas.{cast, lower_fits, near_lower, near_upper}
use Rattle.hpf_map.proofs.PlainLemmas.{can_compose, not_less, squeezed, lies_at, lies_length, some_index, plain_images, plain_same}

-- ---- lists, item by item

same_items : (xs ys : List ℤ) → length xs ≡ length ys → ((k : ℕ) → k < length xs → get_or xs k (pos 0) ≡ get_or ys k (pos 0)) → xs ≡ ys
same_items [] [] long h = refl
same_items [] (y ∷ ys) long h = absurd (omega arith)
same_items (x ∷ xs) [] long h = absurd (omega arith)
same_items (x ∷ xs) (y ∷ ys) long h =
    let here : x ≡ y = h 0 (omega arith) in
    rw (here, same_items xs ys (omega arith) (λ k below. h (suc k) (omega arith))) refl

choice_by : (lists : List (List ℤ)) (chosen : List ℤ) → length chosen ≡ length lists → ((k : ℕ) → k < length lists → Contains (get_or lists k []) (get_or chosen k (pos 0))) → IsChoice lists chosen
choice_by [] [] long h = tt
choice_by [] (x ∷ chosen) long h = absurd (omega arith)
choice_by (items ∷ rest) [] long h = absurd (omega arith)
choice_by (items ∷ rest) (x ∷ chosen) long h =
    (h 0 (omega arith), choice_by rest chosen (omega arith) (λ k below. h (suc k) (omega arith)))

lies_from : (spans : List Span) (index : List ℤ) → length index ≡ length spans → ((k : ℕ) → k < length spans → IsIn (get_or spans k no_span) (get_or index k (pos 0))) → LiesIn (map run_of spans) index
lies_from [] [] long h = tt
lies_from [] (i ∷ index) long h = absurd (omega arith)
lies_from (s ∷ spans) [] long h = absurd (omega arith)
lies_from (s ∷ spans) (i ∷ index) long h = (h 0 (omega arith), lies_from spans index (omega arith) (λ k below. h (suc k) (omega arith)))

-- ---- positions lie in the base

stays_in : (array : List Span) (s : Span) (image : Image) (index : List ℤ) (u : ℤ) → Stays array s image → LiesIn (map run_of array) index → Contains (positions image index) u → IsIn s u
stays_in array s (Along dim a b) index u stay lies has =
    subst (IsIn s) (contains_only _ u has) (stay.2 (subscript index dim) (lies_at array index dim (pos 0) lies stay.0))
stays_in array s (Fixed n) index u stay lies has = subst (IsIn s) (contains_only n u has) stay
stays_in array s (Spread first step count) index u stay lies has = stay.1 u has

at_each : (images : List Image) (index position : List ℤ) (k : ℕ) → LiesUnder images index position → k < length images → Contains (positions (get_or images k no_image) index) (get_or position k (pos 0))
at_each images index position k under below =
    let lists = map (λ image. positions image index) images in
    let long : length lists ≡ length images = length-map images (λ image. positions image index) in
    subst (λ us. Contains us (get_or position k (pos 0))) (get_or-map (λ image. positions image index) images k no_image [] below)
    (choice_at lists position k (pos 0) (choice_from lists position under) (omega arith))

under_length : (images : List Image) (index position : List ℤ) → LiesUnder images index position → length position ≡ length images
under_length images index position under =
    choice_length _ position (choice_from _ position under) ∙ length-map images (λ image. positions image index)

pub under_lies : (array base : List Span) (images : List Image) (index position : List ℤ) → AreImages array base images → LiesIn (map run_of array) index → LiesUnder images index position → LiesIn (map run_of base) position
under_lies array base images index position are lies under =
    let size : length images ≡ length base = are.size in
    lies_from base position (under_length images index position under ∙ are.size)
    (λ k below. stays_in array (get_or base k no_span) (get_or images k no_image) index _ (are.stay k below) lies (at_each images index position k under (omega arith)))

-- ---- an array in itself

itself_stays : (array : List Span) (d : ℕ) (image : Image) → AreSound array → d < length array → IsItself array d image → Stays array (get_or array d no_span) image
itself_stays array d (Along dim a b) sound below is = (
  is.several.0,
  is.several.1,
  λ x within.
      let i = some_index array dim x sound is.several.0 within in
      let one : a *ℤ subscript i.0 dim +ℤ b ≡ subscript i.0 d = contains_only _ _ (subst (λ us. Contains us (subscript i.0 d)) (sym (is.same i.0 i.1)) (contains_here _ [])) in
      subst (λ v. IsIn (get_or array d no_span) (a *ℤ v +ℤ b)) i.2 (subst (IsIn (get_or array d no_span)) (sym one) (lies_at array i.0 d (pos 0) i.1 below)),
)
itself_stays array d (Fixed n) sound below is =
    let s = sound d below in
    let least : (get_or array d no_span).low ≤ℤ (get_or array d no_span).low = omega (arith, ints) in
    let i = some_index array d (get_or array d no_span).low sound below (record { least = least; greatest = s.order }) in
    let one : n ≡ subscript i.0 d = contains_only _ _ (subst (λ us. Contains us (subscript i.0 d)) (sym (is.same i.0 i.1)) (contains_here _ [])) in
    subst (IsIn (get_or array d no_span)) (sym one) (lies_at array i.0 d (pos 0) i.1 below)
itself_stays array d (Spread first step count) sound below is =
    let s = sound d below in
    let least : (get_or array d no_span).low ≤ℤ (get_or array d no_span).low = omega (arith, ints) in
    let i = some_index array d (get_or array d no_span).low sound below (record { least = least; greatest = s.order }) in (
      is.several,
      λ u has.
          let one : subscript i.0 d ≡ u = contains_only _ u (subst (λ us. Contains us u) (is.same i.0 i.1) has) in
          subst (IsIn (get_or array d no_span)) one (lies_at array i.0 d (pos 0) i.1 below),
    )

pub itself_images : (array : List Span) (images : List Image) → AreSound array → AreThemselves array images → AreImages array array images
itself_images array images sound are =
    let size : length images ≡ length array = are.size in
    record {
      size = are.size;
      stay = λ e below. itself_stays array e (get_or images e no_image) sound below (are.each e (omega arith));
      once = λ d e f below under one other. sym ((are.each e below).follows d one) ∙ (are.each f under).follows d other;
    }

itself_to : (array : List Span) (images : List Image) (index position : List ℤ) → AreThemselves array images → LiesIn (map run_of array) index → LiesUnder images index position → index ≡ position
itself_to array images index position are lies under =
    let size : length images ≡ length array = are.size in
    let long : length index ≡ length array = lies_length array index lies in
    let other : length position ≡ length images = under_length images index position under in
    same_items index position (omega arith)
    (λ k below. contains_only _ _ (subst (λ us. Contains us (get_or position k (pos 0))) ((are.each k (omega arith)).same index lies) (at_each images index position k under (omega arith))))

itself_from : (array : List Span) (images : List Image) (index : List ℤ) → AreThemselves array images → LiesIn (map run_of array) index → LiesUnder images index index
itself_from array images index are lies =
    let lists = map (λ image. positions image index) images in
    let size : length images ≡ length array = are.size in
    let long : length index ≡ length array = lies_length array index lies in
    let many : length lists ≡ length images = length-map images (λ image. positions image index) in
    choice_in lists index (choice_by lists index (omega arith)
    (λ k below.
    let inside : k < length images = omega arith in
    subst (λ us. Contains us (get_or index k (pos 0))) (sym (get_or-map (λ image. positions image index) images k no_image [] inside ∙ (are.each k inside).same index lies)) (contains_here _ [])))

-- ---- directives

apart : (w : Way) (k s b : ℕ) → w ≡ Distributed k → w ≡ Aligned s (Some b) → ⊥
apart w k s b e f = let same : Distributed k ≡ Aligned s (Some b) = sym e ∙ f in absurd cc

module _ (names : List Name) (items : List ItemTree) where
  itself_only : (n k : ℕ) (index : List ℤ) (end : ℕ) (position : List ℤ) → way_at (ways_of names items) n ≡ Distributed k → LiesAt names items n index end position → (end ≡ n) × (index ≡ position)
  itself_only n k index end position way (Itself n' k' index' way') = (refl, refl)
  itself_only n k index end position way (Through n' k' b root images index' between position' way' said has lies) =
      absurd (apart (way_at (ways_of names items) n) k k' b way way')

  -- an array that a directive distributes lies in itself
  pub itself_lands : (n k : ℕ) (shape : List Span) (images : List Image) → shape_at names items n ≡ Some shape → way_at (ways_of names items) n ≡ Distributed k → AreSound shape → AreThemselves shape images → IsLanding names items n n k images
  itself_lands n k shape images has way sound are = record {
    shape = shape;
    root = shape;
    has_shape = has;
    has_root = has;
    distributed = way;
    images_are = itself_images shape images sound are;
    lies = λ index end position lies. (
      λ at. let is = itself_only n k index end position way at in
          (is.0, subst (λ p. LiesUnder images index p) is.1 (itself_from shape images index are lies)),
      λ is.
          let same : index ≡ position = itself_to shape images index position are lies is.1 in
          subst (λ e. LiesAt names items n index e position) (sym is.0) (subst (λ p. LiesAt names items n index n p) same (Itself n k index way)),
    );
  }

  -- what one step from alignee to base is
  record IsStep (statement base : ℕ) (images : List Image) (index : List ℤ) (end : ℕ) (position : List ℤ) : Type 0 where
    between : List ℤ
    has : LiesUnder images index between
    lies : LiesAt names items base between end position

  same_way : (w : Way) (k b j c : ℕ) → w ≡ Aligned k (Some b) → w ≡ Aligned j (Some c) → (k ≡ j) × (b ≡ c)
  same_way w k b j c e f = let same : Aligned k (Some b) ≡ Aligned j (Some c) = sym e ∙ f in (cc, cc)

  same_said : (o : Option (List Image)) (xs ys : List Image) → o ≡ Some xs → o ≡ Some ys → xs ≡ ys
  same_said o xs ys e f = let same : Some xs ≡ Some ys = sym e ∙ f in cc

  one_step : (n k b : ℕ) (images : List Image) (index : List ℤ) (end : ℕ) (position : List ℤ) → IsAlignedWith names items n k b images → LiesAt names items n index end position → IsStep k b images index end position
  one_step n k b images index end position with (Itself n' k' index' way) = absurd (apart (way_at (ways_of names items) n) k' k b way with.way)
  one_step n k b images index end position with (Through n' j c root others index' between position' way said has lies) =
      let same = same_way (way_at (ways_of names items) n) k b j c with.way way in
      let by : images_by names items j n c ≡ Some images = subst (λ i. images_by names items i n c ≡ Some images) same.0 (subst (λ i. images_by names items k n i ≡ Some images) same.1 with.said) in
      let is : others ≡ images = same_said (images_by names items j n c) others images said by in
      record {
        between = between;
        has = subst (λ is. LiesUnder is index between) is has;
        lies = subst (λ m. LiesAt names items m between end position) (sym same.1) lies;
      }

  same_shape : (o : Option (List Span)) (xs ys : List Span) → o ≡ Some xs → o ≡ Some ys → xs ≡ ys
  same_shape o xs ys e f = let same : Some xs ≡ Some ys = sym e ∙ f in cc

  -- an array that a directive aligns lies where its images in the base do
  pub aligned_lands : (n k b end statement : ℕ) (shape : List Span) (images first second : List Image) → ShapesAreSound names items → IsAlignedWith names items n k b images → IsLanding names items b end statement second
      → shape_at names items n ≡ Some shape → ArePlain shape images first → IsLanding names items n end statement (map (composed shape first) second)
  aligned_lands n k b end statement shape images first second sound is landing has plain =
      let array : is.shape ≡ shape = same_shape (shape_at names items n) is.shape shape is.has_shape has in
      let base : is.root ≡ landing.shape = same_shape (shape_at names items b) is.root landing.shape is.has_root landing.has_shape in
      let aligned : AreAligned shape landing.shape images = subst (λ r. AreAligned shape r images) base (subst (λ s. AreAligned s is.root images) array is.aligned) in
      let are : AreImages shape landing.shape first = plain_images shape landing.shape images first (sound n shape has) aligned plain in
      let law = go_through shape landing.shape landing.root first second are landing.images_are in
      let to = λ (index between : List ℤ) (lies : LiesIn (map run_of shape) index) (under : LiesUnder images index between).
      subst (λ lists. Contains (choices lists) between) (sym (plain_same shape images first index plain lies)) under in
      let from = λ (index between : List ℤ) (lies : LiesIn (map run_of shape) index) (under : LiesUnder first index between).
      subst (λ lists. Contains (choices lists) between) (plain_same shape images first index plain lies) under in
      record {
        shape = shape;
        root = landing.root;
        has_shape = has;
        has_root = landing.has_root;
        distributed = landing.distributed;
        images_are = composed_images shape landing.shape landing.root first second are landing.images_are;
        lies = λ index last position lies. (
          λ at.
              let s = one_step n k b images index last position is at in
              let under = to index s.between lies s.has in
              let inside = under_lies shape landing.shape first index s.between are lies under in
              let there = (landing.lies s.between last position inside).0 s.lies in
              (there.0, (law index position lies).1 (s.between, under, there.1)),
          λ there.
              let s = (law index position lies).0 there.1 in
              let inside = under_lies shape landing.shape first index s.0 are lies s.1 in
              let on = (landing.lies s.0 last position inside).1 (there.0, s.2) in
              Through n k b last images index s.0 position is.way is.said (from index s.0 lies s.1) on,
        );
      }

-- ---- what the code computes

pub itself_along : (array : List Span) (d : ℕ) → AreSound array → d < length array
    → int_lt (to_z w32 (of_z w32 (get_or array d no_span).low)) (to_z w32 (of_z w32 (get_or array d no_span).high)) ≡ true → IsItself array d (Along d (pos 1) (pos 0))
itself_along array d sound below more = record {
  several = (below, less_than array d (sound d below) more);
  follows = λ e on. sym (eqb-true d e on);
  same = λ index lies. ap (λ u. u ∷ []) (once_times (subscript index d));
}
  where
    once_times : (x : ℤ) → pos 1 *ℤ x +ℤ pos 0 ≡ x
    once_times x = omega (arith, ints)

    less_than : (array : List Span) (d : ℕ) → IsSound (get_or array d no_span) → int_lt (to_z w32 (of_z w32 (get_or array d no_span).low)) (to_z w32 (of_z w32 (get_or array d no_span).high)) ≡ true → (get_or array d no_span).low <ℤ (get_or array d no_span).high
    less_than array d s more =
        let low = (get_or array d no_span).low in
        let high = (get_or array d no_span).high in
        let read_low = lower_fits low (near_lower low high s.near.least s.order s.near.greatest) in
        let read_high = lower_fits high (near_upper low high s.near.least s.order s.near.greatest) in
        let test : int_lt low high ≡ true = rw (read_low, read_high) at more in
        omega (arith, ints, test)

pub itself_fixed : (array : List Span) (d : ℕ) (n : ℤ) → AreSound array → d < length array
    → int_lt (to_z w32 (of_z w32 (get_or array d no_span).low)) (to_z w32 (of_z w32 (get_or array d no_span).high)) ≡ false
    → n ≡ to_z w32 (of_z w32 (get_or array d no_span).low) → IsItself array d (Fixed (to_z w64 (of_z w64 n)))
itself_fixed array d n sound below none read =
    let s = sound d below in
    let low = (get_or array d no_span).low in
    let high = (get_or array d no_span).high in
    let lower = near_lower low high s.near.least s.order s.near.greatest in
    let read_low = lower_fits low lower in
    let read_high = lower_fits high (near_upper low high s.near.least s.order s.near.greatest) in
    let test : int_lt low high ≡ false = rw (read_low, read_high) at none in
    let is : n ≡ low = read ∙ read_low in
    let fit : to_z w64 (of_z w64 n) ≡ low = cast n low is (record { small = omega (arith, lower) }) in
    let one : low ≡ high = not_less low high test s.order in
    record {
      several = tt;
      follows = λ e on. absurd (false≢true on);
      same = λ index lies.
          let at = lies_at array index d (pos 0) lies below in
          ap (λ u. u ∷ []) (fit ∙ sym (squeezed low high (subscript index d) one at.least at.greatest));
    }

-- ---- from a base to the base of that

pub goes_plain : (array : List Span) (images second : List Image) → CanGoOn array images second
    → All (FollowsBelow (length array)) images × All HasSmallCoefficients images × All HasSome images
goes_plain array images second can =
    let size : length images ≡ length can.base = can.aligned.size in (
      All-from_get_or (FollowsBelow (length array)) images no_image (λ e below. (can.aligned.each e (omega arith)).followed),
      All-from_get_or HasSmallCoefficients images no_image (λ e below. (can.aligned.each e (omega arith)).coefficients),
      All-from_get_or HasSome images no_image (λ e below. (can.aligned.each e (omega arith)).some),
    )

pub goes_on : (array : List Span) (images first second : List Image) → CanGoOn array images second → ArePlain array images first → All (CanCompose array first) second
goes_on array images first second can plain =
    let are = plain_images array can.base images first can.sound can.aligned plain in
    let size : length second ≡ length can.root = can.onward.size in
    All-from_get_or (CanCompose array first) second no_image
    (λ e below.
    let inside : e < length can.root = omega arith in
    can_compose array can.base first (get_or can.root e no_span) (get_or second e no_image) can.sound can.sound_base (can.sound_root e inside) are (can.onward.stay e inside))

-- ---- landings

pub record Grounds (names : List Name) (n base : ℕ) (images : List Image) : Type 0 where
  pub shape : List Span
  pub root : List Span
  pub has_shape : name_shape names n ≡ Some shape
  pub has_root : name_shape names base ≡ Some root
  pub are : AreImages shape root images

pub same_some : {A : Type 0} (o : Option A) (x y : A) → o ≡ Some x → o ≡ Some y → x ≡ y
same_some o x y e f = let same : Some x ≡ Some y = sym e ∙ f in cc

module _ (names : List Name) (ways : List Way) (direct : List (Option (List Image))) (clear : AreClear names ways direct) where
  pub grounds : (n base statement : ℕ) (images : List Image) → Lands names ways direct n base statement images → Grounds names n base images
  grounds n base statement images (Here n' k shape images' has way are) = record {
    shape = shape;
    root = shape;
    has_shape = has;
    has_root = has;
    are = itself_images shape images (clear.sound n shape has) are;
  }
  grounds n base statement images (Onward n' k b base' statement' shape listed first second has way lists plain lands) =
      let g = grounds b base statement second lands in
      let a = clear.aligned n k b way in
      let array : a.shape ≡ shape = same_some (name_shape names n) a.shape shape a.has_shape has in
      let middle : a.root ≡ g.shape = same_some (name_shape names b) a.root g.shape a.has_root g.has_shape in
      let said : Some a.images ≡ Some listed = same_some (slice_get direct n) (Some a.images) (Some listed) a.listed lists in
      let is : a.images ≡ listed = cc in
      let aligned : AreAligned shape g.shape listed = subst (λ i. AreAligned shape g.shape i) is (subst (λ r. AreAligned shape r a.images) middle (subst (λ s. AreAligned s a.root a.images) array a.aligned)) in
      let are = plain_images shape g.shape listed first (clear.sound n shape has) aligned plain in
      record {
        shape = shape;
        root = g.root;
        has_shape = has;
        has_root = g.has_root;
        are = composed_images shape g.shape g.root first second are g.are;
      }

  pub can_go_on : (n k b base statement : ℕ) (shape : List Span) (images second : List Image) → name_shape names n ≡ Some shape → way_at ways n ≡ Aligned k (Some b) → slice_get direct n ≡ Some (Some images)
      → Lands names ways direct b base statement second → CanGoOn shape images second
  can_go_on n k b base statement shape images second has way lists lands =
      let g = grounds b base statement second lands in
      let a = clear.aligned n k b way in
      let array : a.shape ≡ shape = same_some (name_shape names n) a.shape shape a.has_shape has in
      let middle : a.root ≡ g.shape = same_some (name_shape names b) a.root g.shape a.has_root g.has_shape in
      let said : Some a.images ≡ Some images = same_some (slice_get direct n) (Some a.images) (Some images) a.listed lists in
      let is : a.images ≡ images = cc in
      record {
        base = g.shape;
        root = g.root;
        sound = clear.sound n shape has;
        sound_base = clear.sound b g.shape g.has_shape;
        sound_root = clear.sound base g.root g.has_root;
        aligned = subst (λ i. AreAligned shape g.shape i) is (subst (λ r. AreAligned shape r a.images) middle (subst (λ s. AreAligned s a.root a.images) array a.aligned));
        onward = g.are;
      }

-- ---- one landing after another

pub get_inner : {A : Type 0} (o : Option (Option A)) (x : A) → Some x ≡ inner o → o ≡ Some (Some x)
get_inner None x e = absurd (let no : Some x ≡ None = e in cc)
get_inner (Some o) x e = ap Some (sym e)

no_inner : {A : Type 0} (o : Option (Option A)) (x : A) → None ≡ inner o → o ≡ Some (Some x) → ⊥
no_inner o x e is = absurd (let no : None ≡ inner (Some (Some x)) = subst (λ p. None ≡ inner p) is e in cc)

same_base : (w : Way) (k j b c : ℕ) (o : Option ℕ) → Aligned k o ≡ w → o ≡ Some b → w ≡ Aligned j (Some c) → b ≡ c
same_base w k j b c o e is f = let same : Aligned k o ≡ Aligned j (Some c) = e ∙ f in let bases : o ≡ Some c = cc in let both : Some b ≡ Some c = sym is ∙ bases in cc

not_both : (w : Way) (k j : ℕ) (o : Option ℕ) → Aligned k o ≡ w → w ≡ Distributed j → ⊥
not_both w k j o e f = let same : Aligned k o ≡ Distributed j = e ∙ f in absurd cc

module _ (names : List Name) (ways : List Way) (direct : List (Option (List Image))) where
  pub aligned_way : (n k b : ℕ) (o : Option ℕ) → Aligned k o ≡ way_at ways n → o ≡ Some b → way_at ways n ≡ Aligned k (Some b)
  aligned_way n k b o way is = sym way ∙ ap (Aligned k) is

  pub onward_asked : (landings : List (Option Landing)) (n k b : ℕ) (o : Option ℕ) (shape : List Span) (images : List Image) (l : Landing) → AreClear names ways direct → AreLandings names ways direct landings
      → Some shape ≡ name_shape names n → Aligned k o ≡ way_at ways n → o ≡ Some b → Some images ≡ inner (slice_get direct n) → Some l ≡ inner (slice_get landings b) → CanGoOn shape images l.images
  onward_asked landings n k b o shape images l clear are has way is lists listed =
      can_go_on names ways direct clear n k b l.base l.statement shape images l.images (sym has) (aligned_way n k b o way is) (get_inner (slice_get direct n) images lists)
      (are b l (get_inner (slice_get landings b) l listed))

  pub onward_lands : (landings : List (Option Landing)) (n k b : ℕ) (o : Option ℕ) (shape : List Span) (images : List Image) (l : Landing) (base statement : ℕ) (result : List Image) → AreLandings names ways direct landings
      → Some shape ≡ name_shape names n → Aligned k o ≡ way_at ways n → o ≡ Some b → Some images ≡ inner (slice_get direct n) → Some l ≡ inner (slice_get landings b)
      → base ≡ l.base → statement ≡ l.statement → ComesOf shape images l.images result → Lands names ways direct n base statement result
  onward_lands landings n k b o shape images l base statement result are has way is lists listed to by comes =
      rw (to, by, comes.2) (Onward n k b l.base l.statement shape images comes.0 l.images (sym has) (aligned_way n k b o way is) (get_inner (slice_get direct n) images lists) comes.1
      (are b l (get_inner (slice_get landings b) l listed)))

  pub no_images : (n k b : ℕ) (o : Option ℕ) → AreClear names ways direct → Aligned k o ≡ way_at ways n → o ≡ Some b → None ≡ inner (slice_get direct n) → ⊥
  no_images n k b o clear way is none =
      let a = clear.aligned n k b (aligned_way n k b o way is) in
      no_inner (slice_get direct n) a.images none a.listed

  pub no_landing : (landings : List (Option Landing)) (n k b : ℕ) (o : Option ℕ) → Aligned k o ≡ way_at ways n → o ≡ Some b → None ≡ inner (slice_get landings b) → CanLand ways landings n → ⊥
  no_landing landings n k b o way is none can = elim can [
    | inl here ↦ not_both (way_at ways n) k here.0 o way here.1
    | inr on ↦
        let same = same_base (way_at ways n) k on.0 b on.1 o way is on.2 in
        no_inner (slice_get landings b) on.3.0 none (subst (λ c. slice_get landings c ≡ Some (Some on.3.0)) (sym same) on.3.1)
  ]

-- ---- walks

module _ (ways : List Way) where
  pub walk_on : (n k b steps : ℕ) (o : Option ℕ) → Aligned k o ≡ way_at ways n → o ≡ Some b → 0 < steps → walk ways steps n ≡ walk ways (steps - 1) b
  unfolding walk
  walk_on n k b zero o way is some = absurd (omega arith)
  walk_on n k b (suc steps) o way is some =
      let leads : way_at ways n ≡ Aligned k (Some b) = sym way ∙ ap (Aligned k) is in
      let next : step ways n ≡ b = ap (step_from n) leads in
      let less : suc steps - 1 ≡ steps = omega arith in
      rw less (ap (walk ways steps) next)

  pub walk_stays : (n steps : ℕ) → leads_on (way_at ways n) ≡ false → walk ways steps n ≡ n
  unfolding walk
  walk_stays n zero stays = refl
  walk_stays n (suc steps) stays =
      let next : step ways n ≡ n = stay_at (way_at ways n) n stays in
      ap (walk ways steps) next ∙ walk_stays n steps stays
    where
      stay_at : (w : Way) (n : ℕ) → leads_on w ≡ false → step_from n w ≡ n
      stay_at Unmapped n h = refl
      stay_at (Distributed k) n h = refl
      stay_at (Aligned k None) n h = refl
      stay_at (Aligned k (Some b)) n h = absurd (false≢true (sym h))

  pub no_steps : (n k b steps : ℕ) (o : Option ℕ) → Aligned k o ≡ way_at ways n → o ≡ Some b → steps ≡ 0 → leads_on (way_at ways (walk ways steps n)) ≡ false → ⊥
  unfolding walk
  no_steps n k b steps o way is none ends =
      let leads : way_at ways n ≡ Aligned k (Some b) = sym way ∙ ap (Aligned k) is in
      let stays : leads_on (way_at ways n) ≡ false = subst (λ m. leads_on (way_at ways (walk ways m n)) ≡ false) none ends in
      let on : leads_on (way_at ways n) ≡ true = ap leads_on leads in
      absurd (false≢true (sym stays ∙ on))

  pub base_ends : (n k b steps : ℕ) (o : Option ℕ) → Aligned k o ≡ way_at ways n → o ≡ Some b → 0 < steps → leads_on (way_at ways (walk ways steps n)) ≡ false → leads_on (way_at ways (walk ways (steps - 1) b)) ≡ false
  base_ends n k b steps o way is some ends = subst (λ m. leads_on (way_at ways m) ≡ false) (walk_on n k b steps o way is some) ends

named_below : (names : List Name) (n : ℕ) (spans : List Span) → name_shape names n ≡ Some spans → n < length names
named_below [] n spans has = absurd (let no : None ≡ Some spans = has in cc)
named_below (x ∷ names) zero spans has = omega arith
named_below (x ∷ names) (suc n) spans has = let below = named_below names n spans has in omega arith

pub base_below : (names : List Name) (ways : List Way) (direct : List (Option (List Image))) (n k b : ℕ) (o : Option ℕ) → AreClear names ways direct → Aligned k o ≡ way_at ways n → o ≡ Some b → b < length names
base_below names ways direct n k b o clear way is =
    let a = clear.aligned n k b (sym way ∙ ap (Aligned k) is) in
    named_below names b a.root a.has_root

pub kept_on : (xs ys zs : List (Option Landing)) → StaysSettled xs ys → StaysSettled ys zs → StaysSettled xs zs
kept_on xs ys zs h k = (k.0 ∙ h.0, λ n settled. k.1 n (h.1 n settled))

-- ---- elements lie where the directives say

pub lands_are : (names : List Name) (items : List ItemTree) (direct : List (Option (List Image))) → AreClear names (ways_of names items) direct → AreSaid names items direct
    → (n base statement : ℕ) (images : List Image) → Lands names (ways_of names items) direct n base statement images → IsLanding names items n base statement images
lands_are names items direct clear said n base statement images (Here n' k shape images' has way are) =
    itself_lands names items n statement shape images has way (clear.sound n shape has) are
lands_are names items direct clear said n base statement images (Onward n' k b base' statement' shape listed first second has way lists plain lands) =
    let a = clear.aligned n k b way in
    let one : Some a.images ≡ Some listed = same_some (slice_get direct n) (Some a.images) (Some listed) a.listed lists in
    let is : a.images ≡ listed = cc in
    aligned_lands names items n k b base statement shape listed first second clear.sound
    (record {
      way = way;
      said = said n k b listed way lists;
      shape = a.shape;
      root = a.root;
      has_shape = a.has_shape;
      has_root = a.has_root;
      aligned = subst (λ i. AreAligned a.shape a.root i) is a.aligned;
    })
    (lands_are names items direct clear said b base statement second lands) has plain

pub none_listed : (n k : ℕ) (l : Landing) → slice_get (replicate n None) k ≡ Some (Some l) → ⊥
none_listed zero k l is = absurd (let no : None ≡ Some (Some l) = is in cc)
none_listed (suc n) zero l is = absurd (let no : Some None ≡ Some (Some l) = is in cc)
none_listed (suc n) (suc k) l is = none_listed n k l is

-- a landing that is there is listed
pub found_settled : (landings : List (Option Landing)) (n : ℕ) (found : Option Landing) → found ≡ inner (slice_get landings n) → is_some found ≡ true → IsSettled landings n
found_settled landings n None e h = absurd (false≢true h)
found_settled landings n (Some l) e h = (l, get_inner (slice_get landings n) l e)
