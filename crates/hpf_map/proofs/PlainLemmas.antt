-- Images of a dimension of one element, and what an ALIGN without a breach gives.
use Rattle.std.proofs.Common.{◌≡◌, ℕ, zero, suc, ◌-◌, ◌^◌, ◌<◌, ◌≤◌, false, List, [], ◌∷◌, length, map, get_or, ℤ, pos, ◌+ℤ◌, ◌*ℤ◌, ◌≤ℤ◌, ◌<ℤ◌, unsigned_abs, w32, w64, to_z, of_z, arith, sym, ap, ◌∙◌, subst, refl}
use Rattle.std.proofs.Math.ListN.{set}
use Rattle.std.specs.Prelude.{Contains, int_lt}
use Rattle.std.proofs.lemmas.Int.{ints}
use Rattle.std.proofs.lemmas.Bool.{false≢true}
use Rattle.std.proofs.lemmas.List.Elements.{length_all_zip, AllZip-get_or}
use Rattle.std.proofs.lemmas.List.{get_or-set_same}
use Rattle.hpf_own.specs.Image.{positions, subscript}
use Rattle.hpf_own.specs.Mapping.{FollowsBelow, HasSmallCoefficients}
use Rattle.hpf_own.specs.Space.{LiesIn}
use Rattle.hpf_own.specs.declared.image.Image.{Image}
use Rattle.hpf_own.specs.declared.image.Image.TheVariants.{Along, Fixed, Spread}
use Rattle.hpf_map.specs.declared.name.Span.{Span}
use Rattle.hpf_map.specs.Alignments.{no_span}
use Rattle.hpf_map.specs.Spaces.{run_of}
use Rattle.hpf_map.specs.Composed.{no_image, IsIn, IsNear, near, Stays, AreImages, CanCompose, moved, IsSound, AreSound, HasSeveral, IsAligned, AreAligned, IsPlain, ArePlain}
use Rattle.hpf_map.proofs.ChoiceLemmas.{contains_here}
use Rattle.hpf_map.proofs.ComposedLemmas.{composed_stays}
use Rattle.hpf_map.proofs.MoveLemmas.{cast, near_lower, near_upper, only_small, lower_fits, step_abs}

-- ---- indices

pub lies_at : (spans : List Span) (index : List ℤ) (k : ℕ) (d : ℤ) → LiesIn (map run_of spans) index → k < length spans → IsIn (get_or spans k no_span) (get_or index k d)
lies_at [] index k d h below = absurd (omega arith)
lies_at (s ∷ spans) [] k d h below = absurd h
lies_at (s ∷ spans) (i ∷ index) zero d h below = h.0
lies_at (s ∷ spans) (i ∷ index) (suc k) d h below = lies_at spans index k d h.1 (omega arith)

pub lies_length : (spans : List Span) (index : List ℤ) → LiesIn (map run_of spans) index → length index ≡ length spans
lies_length [] [] h = refl
lies_length [] (i ∷ index) h = absurd h
lies_length (s ∷ spans) [] h = absurd h
lies_length (s ∷ spans) (i ∷ index) h = ap suc (lies_length spans index h.1)

lies_set : (spans : List Span) (index : List ℤ) (k : ℕ) (x : ℤ) → LiesIn (map run_of spans) index → k < length spans → IsIn (get_or spans k no_span) x → LiesIn (map run_of spans) (set index k x)
lies_set [] index k x h below is = absurd (omega arith)
lies_set (s ∷ spans) [] k x h below is = absurd h
lies_set (s ∷ spans) (i ∷ index) zero x h below is = (is, h.1)
lies_set (s ∷ spans) (i ∷ index) (suc k) x h below is = (h.0, lies_set spans index k x h.1 (omega arith) is)

lower_lie : (spans : List Span) → AreSound spans → LiesIn (map run_of spans) (map (λ s. s.low) spans)
lower_lie [] sound = tt
lower_lie (s ∷ spans) sound =
    let here : IsSound s = sound 0 (omega arith) in
    let least : s.low ≤ℤ s.low = omega (arith, ints) in
    (record { least = least; greatest = here.order }, lower_lie spans (λ d below. sound (suc d) (omega arith)))

-- an index with this subscript in a dimension
pub some_index : (spans : List Span) (k : ℕ) (x : ℤ) → AreSound spans → k < length spans → IsIn (get_or spans k no_span) x → (index : List ℤ) × LiesIn (map run_of spans) index × (subscript index k ≡ x)
some_index spans k x sound below is =
    let lows = map (λ s. s.low) spans in
    let lie = lower_lie spans sound in
    let long = lies_length spans lows lie in
    (set lows k x, lies_set spans lows k x lie below is, get_or-set_same lows k x (pos 0) (omega arith))

-- ---- one element

pub squeezed : (low high x : ℤ) → low ≡ high → low ≤ℤ x → x ≤ℤ high → x ≡ low
squeezed low high x e h k = omega (arith, ints)

pub plain_itself : (array : List Span) (image : Image) → HasSeveral array image → IsPlain array image image
plain_itself array image several = record { several = several; follows = λ d h. h; same = λ index lies. refl }

pub plain_along : (array : List Span) (dim : ℕ) (a b : ℤ) → dim < length array → (get_or array dim no_span).low ≡ (get_or array dim no_span).high
    → IsPlain array (Along dim a b) (Fixed (a *ℤ (get_or array dim no_span).low +ℤ b))
plain_along array dim a b below one = record {
  several = tt;
  follows = λ d h. absurd (false≢true h);
  same = λ index lies.
      let at = lies_at array index dim (pos 0) lies below in
      let is = squeezed (get_or array dim no_span).low (get_or array dim no_span).high (subscript index dim) one at.least at.greatest in
      ap (λ x. (a *ℤ x +ℤ b) ∷ []) (sym is);
}

one_place : (first step : ℤ) → first ≡ first +ℤ (pos 0 *ℤ step)
one_place first step = omega (arith, ints)

pub plain_spread : (array : List Span) (first step : ℤ) (count : ℕ) → 1 ≤ count → count < 2 → IsPlain array (Spread first step count) (Fixed first)
plain_spread array first step zero some few = absurd (omega arith)
plain_spread array first step (suc zero) some few = record {
  several = tt;
  follows = λ d h. absurd (false≢true h);
  same = λ index lies. ap (λ u. u ∷ []) (one_place first step);
}
plain_spread array first step (suc (suc n)) some few = absurd (omega arith)

-- ---- from an ALIGN

plain_stays : (array : List Span) (s : Span) (image plain : Image) → AreSound array → IsAligned array s image → IsPlain array image plain → Stays array s plain
plain_stays array s image (Along dim a b) sound are is = (
  is.several.0,
  is.several.1,
  λ x within.
      let i = some_index array dim x sound is.several.0 within in
      let has : Contains (positions image i.0) (a *ℤ subscript i.0 dim +ℤ b) = subst (λ us. Contains us (a *ℤ subscript i.0 dim +ℤ b)) (is.same i.0 i.1) (contains_here _ []) in
      subst (λ u. IsIn s (a *ℤ u +ℤ b)) i.2 (are.inside i.0 _ i.1 has),
)
plain_stays array s image (Fixed n) sound are is =
    let lie = lower_lie array sound in
    are.inside _ n lie (subst (λ us. Contains us n) (is.same _ lie) (contains_here n []))
plain_stays array s image (Spread first step count) sound are is =
    let lie = lower_lie array sound in
    (is.several, λ u has. are.inside _ u lie (subst (λ us. Contains us u) (is.same _ lie) has))

pub plain_images : (array base : List Span) (images plain : List Image) → AreSound array → AreAligned array base images → ArePlain array images plain → AreImages array base plain
plain_images array base images plain sound are is =
    let long : length images ≡ length plain = length_all_zip (IsPlain array) images plain is in
    let size : length images ≡ length base = are.size in
    let each = λ (e : ℕ) (below : e < length images). AllZip-get_or (IsPlain array) images plain e no_image no_image is below in
    record {
      size = sym long ∙ are.size;
      stay = λ e below. plain_stays array (get_or base e no_span) (get_or images e no_image) (get_or plain e no_image) sound (are.each e below) (each e (omega arith));
      once = λ d e f below under one other.
          let within : e < length images = omega arith in
          let inside : f < length images = omega arith in
          are.once d e f within inside ((each e within).follows d one) ((each f inside).follows d other);
    }

-- elements lie where they lay
pub plain_same : (array : List Span) (images plain : List Image) (index : List ℤ) → ArePlain array images plain → LiesIn (map run_of array) index
    → map (λ image. positions image index) plain ≡ map (λ image. positions image index) images
plain_same array [] [] index is lies = refl
plain_same array [] (p ∷ plain) index is lies = absurd is
plain_same array (i ∷ images) [] index is lies = absurd is
plain_same array (i ∷ images) (p ∷ plain) index is lies =
    rw (is.0.same index lies, plain_same array images plain index is.1 lies) refl

-- ---- images that may be composed

wide : (s : Span) (u : ℤ) → IsNear s → IsIn s u → IsIn near u
wide s u h is =
    let least : near.low ≤ℤ u = omega (arith, ints, h.least, is.least) in
    let greatest : u ≤ℤ near.high = omega (arith, ints, h.greatest, is.greatest) in
    record { least = least; greatest = greatest }

widened : (array : List Span) (s : Span) (image : Image) → IsNear s → Stays array s image → Stays array near image
widened array s (Along dim a b) h stay = (stay.0, stay.1, λ x is. wide s _ h (stay.2 x is))
widened array s (Fixed n) h stay = wide s n h stay
widened array s (Spread first step count) h stay = (stay.0, λ u has. wide s u h (stay.1 u has))

pub can_compose : (array base : List Span) (first : List Image) (t : Span) (image : Image) → AreSound array → AreSound base → IsSound t → AreImages array base first → Stays base t image → CanCompose array first image
can_compose array base first t (Along dim a b) sound sound_base there are stay =
    let d = get_or base dim no_span in
    let several : d.low <ℤ d.high = stay.1 in
    let order : d.low ≤ℤ d.high = omega (arith, ints, several) in
    let here : d.low ≤ℤ d.low = omega (arith, ints) in
    let up : d.low ≤ℤ (d.low +ℤ pos 1) = omega (arith, ints) in
    let next : (d.low +ℤ pos 1) ≤ℤ d.high = omega (arith, ints, several) in
    let one : IsIn d d.low = record { least = here; greatest = order } in
    let two : IsIn d (d.low +ℤ pos 1) = record { least = up; greatest = next } in
    let step = step_abs a d.low b (wide t _ there.near (stay.2 d.low one)) (wide t _ there.near (stay.2 (d.low +ℤ pos 1) two)) in
    let size : length first ≡ length base = are.size in
    let below : dim < length base = stay.0 in
    let moves = composed_stays array base first t (Along dim a b) are stay in (
      omega arith,
      record {
        bounds = λ e inside. (sound e inside).near;
        step = omega (arith, step);
        from = widened array d (get_or first dim no_image) (sound_base dim below).near (are.stay dim below);
        to = widened array t (moved array a b (get_or first dim no_image)) there.near moves;
      },
    )
can_compose array base first t (Fixed n) sound sound_base there are stay = tt
can_compose array base first t (Spread start step count) sound sound_base there are stay = tt

-- ---- what the code computes

pub not_less : (low high : ℤ) → int_lt low high ≡ false → low ≤ℤ high → low ≡ high
not_less low high h k = omega (arith, ints)

pub plain_only : (array : List Span) (image : Image) (dim : ℕ) (a b r : ℤ) → AreSound array → FollowsBelow (length array) image → HasSmallCoefficients image → image ≡ Along dim a b
    → int_lt (to_z w32 (of_z w32 (get_or array dim no_span).low)) (to_z w32 (of_z w32 (get_or array dim no_span).high)) ≡ false
    → r ≡ (to_z w64 (of_z w64 a) *ℤ to_z w32 (of_z w32 (get_or array dim no_span).low)) +ℤ to_z w64 (of_z w64 b)
    → IsPlain array image (Fixed (to_z w64 (of_z w64 r)))
plain_only array image dim a b r sound followed coefficients is one made =
    let below : dim < length array = subst (FollowsBelow (length array)) is followed in
    let small : HasSmallCoefficients (Along dim a b) = subst HasSmallCoefficients is coefficients in
    let d = get_or array dim no_span in
    let s = sound dim below in
    let lower = near_lower d.low d.high s.near.least s.order s.near.greatest in
    let upper = near_upper d.low d.high s.near.least s.order s.near.greatest in
    let read_low = lower_fits d.low lower in
    let read_high = lower_fits d.high upper in
    let test : int_lt d.low d.high ≡ false = rw (read_low, read_high) at one in
    let fit_a : to_z w64 (of_z w64 a) ≡ a = cast a a refl (record { small = omega (arith, small.0) }) in
    let fit_b : to_z w64 (of_z w64 b) ≡ b = cast b b refl (record { small = omega (arith, small.1) }) in
    let is_place : r ≡ a *ℤ d.low +ℤ b = rw (fit_a, read_low, fit_b) at made in
    let fit : to_z w64 (of_z w64 r) ≡ a *ℤ d.low +ℤ b = cast r _ is_place (only_small a b d.low small.0 small.1 lower) in
    rw (is, fit) (plain_along array dim a b below (not_less d.low d.high test s.order))

pub only_requires : (array : List Span) (image : Image) (dim : ℕ) (a b : ℤ) → AreSound array → FollowsBelow (length array) image → image ≡ Along dim a b → unsigned_abs (to_z w32 (of_z w32 (get_or array dim no_span).low)) ≤ 2 ^ 31 - 1
only_requires array image dim a b sound followed is =
    let below : dim < length array = subst (FollowsBelow (length array)) is followed in
    let d = get_or array dim no_span in
    let s = sound dim below in
    let lower = near_lower d.low d.high s.near.least s.order s.near.greatest in
    rw (lower_fits d.low lower) lower
