-- Images of an array in the base of its base are where one comes to by going through the base.
use Rattle.std.proofs.Common.{◌≡◌, ℕ, suc, ◌*◌, ◌<◌, ◌≤◌, true, List, [], ◌∷◌, length, map, get_or, ℤ, pos, ◌+ℤ◌, ◌*ℤ◌, ◌-ℤ◌, arith, sym, ap, ◌∙◌, subst, refl, eq-eqb}
use borrow.Author.Differences.{up, down, same_in, sum_is_lem, product_is}
use lib.IntN.{*ℤ_comm}
use Rattle.std.specs.Prelude.{Contains}
use Rattle.std.specs.List.{range_with_len}
use Rattle.std.proofs.lemmas.Int.{ints}
use Rattle.std.proofs.lemmas.Bool.{false≢true}
use Rattle.std.proofs.lemmas.List.{get_or-map, length-map}
use Rattle.std.proofs.lemmas.List.FromFn.{length-map-range_with_len}
use Rattle.std.proofs.lemmas.Simd.{map-map}
use Rattle.hpf_dist.specs.Spread.{spread}
use Rattle.hpf_own.specs.Image.{positions, subscript}
use Rattle.hpf_own.specs.Mapping.{follows, FollowsBelow}
use Rattle.hpf_own.specs.declared.image.Image.{Image}
use Rattle.hpf_own.specs.declared.image.Image.TheVariants.{Along, Fixed, Spread}
use Rattle.hpf_map.specs.declared.name.Span.{Span}
use Rattle.hpf_map.specs.Alignments.{no_span}
use Rattle.hpf_map.specs.Composed.{no_image, IsIn, Stays, AreImages, GoThrough, moved, composed}
use Rattle.hpf_map.proofs.ChoiceLemmas.{IsChoice, choice_in, choice_from, contains_from_map}
use Rattle.hpf_map.proofs.ThroughLemmas.{reached, reached_from, reached_to, FollowBelow}

-- ---- numbers

pub times_more : (a x y : ℤ) → a *ℤ (x +ℤ y) ≡ (a *ℤ x) +ℤ (a *ℤ y)
times_more a x y =
    let s = sum_is_lem x y in
    let high = ap (λ n. up a * n) s in
    let low = ap (λ n. down a * n) s in
    let whole = product_is a (x +ℤ y) in
    let left = product_is a x in
    let right = product_is a y in
    same_in _ _ (omega (arith, sum_is_lem (a *ℤ x) (a *ℤ y)))

times_times : (a b c : ℤ) → (a *ℤ b) *ℤ c ≡ a *ℤ (b *ℤ c)
times_times a b c =
    let ab = product_is a b in
    let bc = product_is b c in
    let left = product_is (a *ℤ b) c in
    let right = product_is a (b *ℤ c) in
    let by = λ (k : ℕ) (m n : ℕ) (e : m ≡ n). ap (λ x. x * k) e in
    let ups : up ((a *ℤ b) *ℤ c) ≡ up (a *ℤ (b *ℤ c)) =
    omega (arith, by (up c) _ _ ab.0, by (down c) _ _ ab.1, by (up a) _ _ bc.0, by (down a) _ _ bc.1) in
    let downs : down ((a *ℤ b) *ℤ c) ≡ down (a *ℤ (b *ℤ c)) =
    omega (arith, by (down c) _ _ ab.0, by (up c) _ _ ab.1, by (down a) _ _ bc.0, by (up a) _ _ bc.1) in
    same_in _ _ (omega (arith, ups, downs))

pub along_moved : (a b c e low x : ℤ) → (a *ℤ c) *ℤ x +ℤ ((a *ℤ (c *ℤ low +ℤ e) +ℤ b) -ℤ ((a *ℤ c) *ℤ low)) ≡ a *ℤ (c *ℤ x +ℤ e) +ℤ b
along_moved a b c e low x =
    rw (times_times a c x, times_times a c low, times_more a (c *ℤ low) e, times_more a (c *ℤ x) e) (omega (arith, ints))

pub spread_moved : (a b first step : ℤ) (k : ℕ) → (a *ℤ first +ℤ b) +ℤ (pos k *ℤ (a *ℤ step)) ≡ a *ℤ (first +ℤ (pos k *ℤ step)) +ℤ b
spread_moved a b first step k =
    rw (times_more a first (pos k *ℤ step), ← times_times (pos k) a step, ← times_times a (pos k) step, *ℤ_comm (pos k) a) (omega (arith, ints))

-- ---- positions

map_same : {A B : Type 0} (f g : A → B) → ((x : A) → f x ≡ g x) → (xs : List A) → map f xs ≡ map g xs
map_same f g h [] = refl
map_same f g h (x ∷ xs) = rw (h x, map_same f g h xs) refl

pub moved_positions : (array : List Span) (a b : ℤ) (image : Image) (index : List ℤ) → positions (moved array a b image) index ≡ map (λ u. a *ℤ u +ℤ b) (positions image index)
moved_positions array a b (Along dim c e) index =
    ap (λ u. u ∷ []) (along_moved a b c e (get_or array dim no_span).low (subscript index dim))
moved_positions array a b (Fixed n) index = refl
moved_positions array a b (Spread first step count) index =
    map_same (λ k. (a *ℤ first +ℤ b) +ℤ (pos k *ℤ (a *ℤ step))) (λ k. a *ℤ (first +ℤ (pos k *ℤ step)) +ℤ b) (λ k. spread_moved a b first step k) (range_with_len 0 count)
    ∙ sym (map-map (λ u. a *ℤ u +ℤ b) (λ k. first +ℤ (pos k *ℤ step)) (range_with_len 0 count))

abbrev at_all : List Image → List ℤ → List (List ℤ)
at_all images index = map (λ image. positions image index) images

at_one : (images : List Image) (index : List ℤ) (d : ℕ) → d < length images → get_or (at_all images index) d [] ≡ positions (get_or images d no_image) index
at_one images index d below = get_or-map (λ image. positions image index) images d no_image [] below

composed_positions : (array : List Span) (first : List Image) (index : List ℤ) (image : Image) → FollowsBelow (length first) image → positions (composed array first image) index ≡ reached (at_all first index) image
composed_positions array first index (Along dim a b) below =
    moved_positions array a b (get_or first dim no_image) index ∙ ap (map (λ u. a *ℤ u +ℤ b)) (sym (at_one first index dim below))
composed_positions array first index (Fixed n) below = refl
composed_positions array first index (Spread start step count) below = refl

all_composed : (array : List Span) (first : List Image) (index : List ℤ) (second : List Image) → FollowBelow (length first) second → at_all (map (composed array first) second) index ≡ map (reached (at_all first index)) second
all_composed array first index [] below = refl
all_composed array first index (image ∷ second) below =
    rw (composed_positions array first index image below.0, all_composed array first index second below.1) refl

-- ---- images stay in the base of the base

pub moved_stays : (array : List Span) (s t : Span) (a b : ℤ) (image : Image) → ((x : ℤ) → IsIn s x → IsIn t (a *ℤ x +ℤ b)) → Stays array s image → Stays array t (moved array a b image)
moved_stays array s t a b (Along dim c e) h stay =
    (stay.0, stay.1, λ x within. subst (IsIn t) (sym (along_moved a b c e (get_or array dim no_span).low x)) (h (c *ℤ x +ℤ e) (stay.2 x within)))
moved_stays array s t a b (Fixed n) h stay = h n stay
moved_stays array s t a b (Spread first step count) h stay = (
  stay.0,
  λ u has.
      let f : ℤ → ℤ = λ v. a *ℤ v +ℤ b in
      let same : spread (a *ℤ first +ℤ b) (a *ℤ step) count ≡ map f (spread first step count) = moved_positions array a b (Spread first step count) [] in
      let v = contains_from_map f (spread first step count) u (subst (λ us. Contains us u) same has) in
      subst (IsIn t) v.2 (h v.0 (stay.1 v.0 v.1)),
)

pub composed_stays : (array base : List Span) (first : List Image) (t : Span) (image : Image) → AreImages array base first → Stays base t image → Stays array t (composed array first image)
composed_stays array base first t (Along dim a b) are stay =
    moved_stays array (get_or base dim no_span) t a b (get_or first dim no_image) stay.2 (are.stay dim stay.0)
composed_stays array base first t (Fixed n) are stay = stay
composed_stays array base first t (Spread start step count) are stay = stay

-- ---- each dimension is followed once

moved_follows : (array : List Span) (a b : ℤ) (image : Image) (d : ℕ) → follows d (moved array a b image) ≡ follows d image
moved_follows array a b (Along dim c e) d = refl
moved_follows array a b (Fixed n) d = refl
moved_follows array a b (Spread first step count) d = refl

composed_follows : (array base : List Span) (first : List Image) (t : Span) (image : Image) (d : ℕ) → Stays base t image → follows d (composed array first image) ≡ true → (m : ℕ) × (m < length base) × (follows m image ≡ true) × (follows d (get_or first m no_image) ≡ true)
composed_follows array base first t (Along dim a b) d stay on =
    (dim, stay.0, eq-eqb dim dim refl, sym (moved_follows array a b (get_or first dim no_image) d) ∙ on)
composed_follows array base first t (Fixed n) d stay on = absurd (false≢true on)
composed_follows array base first t (Spread start step count) d stay on = absurd (false≢true on)

pub composed_images : (array base root : List Span) (first second : List Image) → AreImages array base first → AreImages base root second → AreImages array root (map (composed array first) second)
composed_images array base root first second are more =
    let put = composed array first in
    let long : length (map put second) ≡ length second = length-map second put in
    let at = λ (e : ℕ) (below : e < length second). get_or-map put second e no_image no_image below in
    let size : length second ≡ length root = more.size in
    record {
      size = long ∙ more.size;
      stay = λ e below.
          let inside : e < length second = omega arith in
          subst (Stays array (get_or root e no_span)) (sym (at e inside)) (composed_stays array base first (get_or root e no_span) (get_or second e no_image) are (more.stay e below));
      once = λ d e f below under one other.
          let inside : e < length second = omega arith in
          let within : f < length second = omega arith in
          let l = composed_follows array base first (get_or root e no_span) (get_or second e no_image) d (more.stay e (omega arith)) (sym (ap (follows d) (at e inside)) ∙ one) in
          let r = composed_follows array base first (get_or root f no_span) (get_or second f no_image) d (more.stay f (omega arith)) (sym (ap (follows d) (at f within)) ∙ other) in
          let first_size : length first ≡ length base = are.size in
          let l_below : l.0 < length base = l.1 in
          let r_below : r.0 < length base = r.1 in
          let same : l.0 ≡ r.0 = are.once d l.0 r.0 (omega arith) (omega arith) l.3 r.3 in
          more.once l.0 e f inside within l.2 (subst (λ m. follows m (get_or second f no_image) ≡ true) (sym same) r.2);
    }

-- ---- the law

stays_below : (base : List Span) (t : Span) (image : Image) → Stays base t image → FollowsBelow (length base) image
stays_below base t (Along dim a b) stay = stay.0
stays_below base t (Fixed n) stay = tt
stays_below base t (Spread first step count) stay = tt

stays_some : (array : List Span) (s : Span) (image : Image) (index : List ℤ) → Stays array s image → 0 < length (positions image index)
stays_some array s (Along dim a b) index stay = omega arith
stays_some array s (Fixed n) index stay = omega arith
stays_some array s (Spread first step count) index stay =
    let two : 2 ≤ count = stay.0 in
    omega (arith, length-map-range_with_len (λ k. first +ℤ (pos k *ℤ step)) 0 count)

follow_below : (rank : ℕ) (images : List Image) → ((e : ℕ) → e < length images → FollowsBelow rank (get_or images e no_image)) → FollowBelow rank images
follow_below rank [] h = tt
follow_below rank (image ∷ images) h = (h 0 (omega arith), follow_below rank images (λ e below. h (suc e) (omega arith)))

pub go_through : (array base root : List Span) (first second : List Image) → AreImages array base first → AreImages base root second → GoThrough array first second (map (composed array first) second)
go_through array base root first second are more index position lies =
    let between = at_all first index in
    let size : length first ≡ length base = are.size in
    let other : length second ≡ length root = more.size in
    let below : FollowBelow (length first) second = follow_below (length first) second (λ e inside. subst (λ n. FollowsBelow n (get_or second e no_image)) (sym are.size) (stays_below base (get_or root e no_span) (get_or second e no_image) (more.stay e (omega arith)))) in
    let long : length between ≡ length first = length-map first (λ image. positions image index) in
    let within : FollowBelow (length between) second = subst (λ n. FollowBelow n second) (sym long) below in
    let same = all_composed array first index second below in
    let some : (k : ℕ) → k < length between → 0 < length (get_or between k []) = λ k inside.
    subst (λ us. 0 < length us) (sym (at_one first index k (omega arith))) (stays_some array (get_or base k no_span) (get_or first k no_image) index (are.stay k (omega arith))) in (
      λ h.
          let r = reached_to between second position some within more.once (subst (λ us. IsChoice us position) same (choice_from _ position h)) in
          (r.0, choice_in between r.0 r.1.0, choice_in _ position r.1.1),
      λ h.
          choice_in _ position (subst (λ us. IsChoice us position) (sym same) (reached_from between second h.0 position within (choice_from between h.0 h.1) (choice_from _ position h.2))),
    )
