-- Whether some element of an array lies outside, from the ends of its dimensions.
use Rattle.std.proofs.Common.{◌≡◌, ℕ, zero, suc, ◌+◌, ◌<◌, Bool, true, false, ◌||◌, List, [], ◌∷◌, length, map, get_or, ℤ, pos, negsuc, ◌+ℤ◌, ◌-ℤ◌, ◌*ℤ◌, ◌≤ℤ◌, ◌<ℤ◌, ◌⊎◌, inl, inr, arith, refl, sym, ap, subst, ◌∙◌, unsigned_abs}
use Rattle.std.specs.Prelude.{Contains, int_lt}
use Rattle.std.specs.List.{list_any}
use Rattle.std.proofs.lemmas.Int.{ints}
use Rattle.std.proofs.Math.ListN.{get_or-map}
use Rattle.std.proofs.lemmas.List.Folds.{list_any_at, Any-from_list_any}
use lib.IntN.{suc_ℤ, *ℤ_comm, suc_ℤ-*ℤ, *ℤ-zero, +ℤ_idr, +ℤ-suc_ℤ, pos-*ℤ-pos, negsuc-*ℤ-pos}
use Rattle.hpf_num.specs.declared.run.Run.{Run}
use Rattle.hpf_own.specs.Image.{subscript}
use Rattle.hpf_own.specs.Space.{indices, LiesIn}
use Rattle.hpf_map.specs.declared.name.Span.{Span}
use Rattle.hpf_own.specs.declared.image.Image.{Image}
use Rattle.hpf_map.specs.Alignments.{is_beyond, no_span, Ordered, strays, strays_in_some, is_outside}
use Rattle.hpf_map.specs.Spaces.{run_of}

-- ---- a linear function between two arguments

times_suc : (a y : ℤ) → a *ℤ suc_ℤ y ≡ a *ℤ y +ℤ a
times_suc a y = *ℤ_comm a (suc_ℤ y) ∙ suc_ℤ-*ℤ y a ∙ ap (λ z. z +ℤ a) (*ℤ_comm y a)

times_up : (a low : ℤ) (k : ℕ) → a *ℤ (low +ℤ pos k) ≡ (a *ℤ low) +ℤ (a *ℤ pos k)
times_up a low zero = ap (λ z. a *ℤ z) (+ℤ_idr low) ∙ sym (ap (λ z. (a *ℤ low) +ℤ z) (*ℤ-zero a) ∙ +ℤ_idr (a *ℤ low))
times_up a low (suc k) =
    ap (λ z. a *ℤ z) (+ℤ-suc_ℤ low (pos k)) ∙ times_suc a (low +ℤ pos k) ∙ ap (λ z. z +ℤ a) (times_up a low k)
    ∙ omega (arith, ints) ∙ ap (λ z. (a *ℤ low) +ℤ z) (sym (times_suc a (pos k)))

-- rising or falling
pub record Between (u v w : ℤ) : Type 0 where
  pub least : u ≤ℤ v
  pub greatest : v ≤ℤ w

along : (a b low : ℤ) (k n : ℕ) → Between (a *ℤ low +ℤ b) (a *ℤ (low +ℤ pos k) +ℤ b) (a *ℤ (low +ℤ pos (k + n)) +ℤ b) ⊎ Between (a *ℤ (low +ℤ pos (k + n)) +ℤ b) (a *ℤ (low +ℤ pos k) +ℤ b) (a *ℤ low +ℤ b)
along (pos m) b low k n =
    let near = times_up (pos m) low k in
    let far = times_up (pos m) low (k + n) in
    let p = pos-*ℤ-pos m k in
    let q = pos-*ℤ-pos m (k + n) in
    inl (record { least = omega (arith, ints, near, p); greatest = omega (arith, ints, near, far, p, q) })
along (negsuc m) b low k n =
    let near = times_up (negsuc m) low k in
    let far = times_up (negsuc m) low (k + n) in
    let p = negsuc-*ℤ-pos m k in
    let q = negsuc-*ℤ-pos m (k + n) in
    inr (record { least = omega (arith, ints, near, far, p, q); greatest = omega (arith, ints, near, p) })

-- ---- positions that aren't the base's

below_or_above : (s : Span) (u : ℤ) → is_beyond s u ≡ true → (u <ℤ s.low) ⊎ (s.high <ℤ u)
below_or_above s u h = by (int_lt u s.low) refl where
  by : (b : Bool) → int_lt u s.low ≡ b → (u <ℤ s.low) ⊎ (s.high <ℤ u)
  by true e = inl (omega (arith, ints, e))
  by false e = let f : int_lt s.high u ≡ true = ap (λ b. b || int_lt s.high u) (sym e) ∙ h in inr (omega (arith, ints, f))

lt_true : (u v : ℤ) → u <ℤ v → int_lt u v ≡ true
lt_true u v h = by (int_lt u v) refl where
  by : (b : Bool) → int_lt u v ≡ b → int_lt u v ≡ true
  by true e = e
  by false e = absurd (omega (arith, ints, e, h))

or_true : (b c : Bool) → c ≡ true → (b || c) ≡ true
or_true true c h = refl
or_true false c h = h

or_cases : (b c : Bool) → (b || c) ≡ true → (b ≡ true) ⊎ (c ≡ true)
or_cases true c h = inl refl
or_cases false c h = inr h

true_or : (b c : Bool) → b ≡ true → (b || c) ≡ true
true_or b c h = ap (λ d. d || c) h

below : (s : Span) (u : ℤ) → u <ℤ s.low → is_beyond s u ≡ true
below s u h = true_or (int_lt u s.low) (int_lt s.high u) (lt_true u s.low h)

above : (s : Span) (u : ℤ) → s.high <ℤ u → is_beyond s u ≡ true
above s u h = or_true (int_lt u s.low) (int_lt s.high u) (lt_true s.high u h)

-- one of the ends isn't, where something between them isn't
pub an_end : (s : Span) (u v w : ℤ) → Between u v w → is_beyond s v ≡ true → (is_beyond s u ≡ true) ⊎ (is_beyond s w ≡ true)
an_end s u v w b h =
    elim (below_or_above s v h) [
      | inl l ↦ inl (below s u (omega (arith, ints, l, b.least)))
      | inr g ↦ inr (above s w (omega (arith, ints, g, b.greatest)))
    ]

-- ---- the ends of an array

-- what the element order lists
abbrev pub Every : Type 0
Every = (bounds : List Run) (index : List ℤ) → LiesIn bounds index → Contains (indices bounds) index

abbrev pub Only : Type 0
Only = (bounds : List Run) (k : ℕ) (d : List ℤ) → k < length (indices bounds) → LiesIn bounds (get_or (indices bounds) k d)

abbrev lows : List Span → List ℤ
lows spans = map (λ s. s.low) spans

abbrev highs : List Span → List ℤ
highs spans = map (λ s. s.high) spans

tail_ordered : (s : Span) (spans : List Span) → Ordered (s ∷ spans) → Ordered spans
tail_ordered s spans h = λ k d l. h (suc k) d (omega (arith, l))

lows_lie : (spans : List Span) → Ordered spans → LiesIn (map run_of spans) (lows spans)
lows_lie [] h = tt
lows_lie (s ∷ spans) h = let o : s.low ≤ℤ s.high = h 0 s (omega arith) in
    (record { least = omega (arith, ints); greatest = o }, lows_lie spans (tail_ordered s spans h))

highs_lie : (spans : List Span) → Ordered spans → LiesIn (map run_of spans) (highs spans)
highs_lie [] h = tt
highs_lie (s ∷ spans) h = let o : s.low ≤ℤ s.high = h 0 s (omega arith) in
    (record { least = o; greatest = omega (arith, ints) }, highs_lie spans (tail_ordered s spans h))

-- an element that lies there makes a test of some element true
some_lies : (every : Every) (p : List ℤ → Bool) (spans : List Span) (index : List ℤ) → LiesIn (map run_of spans) index → p index ≡ true
    → list_any p (indices (map run_of spans)) ≡ true
some_lies every p spans index h e =
    let c = every (map run_of spans) index h in
    list_any_at p (indices (map run_of spans)) c.0 index c.1 (ap p c.2 ∙ e)

-- a dimension of an index that lies there
lies_at : (spans : List Span) (index : List ℤ) (d : ℕ) → LiesIn (map run_of spans) index
    → Between (get_or spans d no_span).low (subscript index d) (get_or spans d no_span).high
lies_at [] [] d h = record { least = omega (arith, ints); greatest = omega (arith, ints) }
lies_at [] (i ∷ index) d h = absurd h
lies_at (s ∷ spans) [] d h = absurd h
lies_at (s ∷ spans) (i ∷ index) zero h = record { least = h.0.least; greatest = h.0.greatest }
lies_at (s ∷ spans) (i ∷ index) (suc d) h = lies_at spans index d h.1

bool_same : (b c : Bool) → (b ≡ true → c ≡ true) → (c ≡ true → b ≡ true) → b ≡ c
bool_same true c f g = sym (f refl)
bool_same false true f g = g refl
bool_same false false f g = refl

-- from one end to the other
between_ends : (a b : ℤ) (s : Span) (x : ℤ) → Between s.low x s.high
    → Between (a *ℤ s.low +ℤ b) (a *ℤ x +ℤ b) (a *ℤ s.high +ℤ b) ⊎ Between (a *ℤ s.high +ℤ b) (a *ℤ x +ℤ b) (a *ℤ s.low +ℤ b)
between_ends a b s x h =
    let k = unsigned_abs (x -ℤ s.low) in
    let n = unsigned_abs (s.high -ℤ x) in
    let ex : s.low +ℤ pos k ≡ x = omega (arith, ints, h.least) in
    let eh : s.low +ℤ pos (k + n) ≡ s.high = omega (arith, ints, h.least, h.greatest) in
    subst (λ (y : ℤ). Between (a *ℤ s.low +ℤ b) (a *ℤ y +ℤ b) (a *ℤ s.high +ℤ b) ⊎ Between (a *ℤ s.high +ℤ b) (a *ℤ y +ℤ b) (a *ℤ s.low +ℤ b)) ex
    (subst (λ (z : ℤ). Between (a *ℤ s.low +ℤ b) (a *ℤ (s.low +ℤ pos k) +ℤ b) (a *ℤ z +ℤ b) ⊎ Between (a *ℤ z +ℤ b) (a *ℤ (s.low +ℤ pos k) +ℤ b) (a *ℤ s.low +ℤ b)) eh
    (along a b s.low k n))

-- Some element of an array strays exactly where one at an end of the dimension does.
pub strays_at_end : (every : Every) (only : Only) (spans : List Span) (base : Span) (d : ℕ) (a b : ℤ) → Ordered spans
    → (is_beyond base (a *ℤ (get_or spans d no_span).low +ℤ b) || is_beyond base (a *ℤ (get_or spans d no_span).high +ℤ b))
    ≡ list_any (λ index. is_beyond base (a *ℤ subscript index d +ℤ b)) (indices (map run_of spans))
strays_at_end every only spans base d a b o =
    let s = get_or spans d no_span in
    let p : List ℤ → Bool = λ index. is_beyond base (a *ℤ subscript index d +ℤ b) in
    let low : subscript (lows spans) d ≡ s.low = get_or-map (λ (t : Span). t.low) spans d no_span in
    let high : subscript (highs spans) d ≡ s.high = get_or-map (λ (t : Span). t.high) spans d no_span in
    bool_same _ _
    (λ h. elim (or_cases _ _ h) [
      | inl e ↦ some_lies every p spans (lows spans) (lows_lie spans o) (ap (λ i. is_beyond base (a *ℤ i +ℤ b)) low ∙ e)
      | inr e ↦ some_lies every p spans (highs spans) (highs_lie spans o) (ap (λ i. is_beyond base (a *ℤ i +ℤ b)) high ∙ e)
    ])
    (λ h.
    let found = Any-from_list_any p (indices (map run_of spans)) h in
    let lies = subst (LiesIn (map run_of spans)) found.3 (only (map run_of spans) found.0 found.1 found.2) in
    elim (between_ends a b s (subscript found.1 d) (lies_at spans found.1 d lies)) [
      | inl up ↦ elim (an_end base _ _ _ up found.4) [ inl e ↦ true_or _ _ e | inr e ↦ or_true _ _ e ]
      | inr down ↦ elim (an_end base _ _ _ down found.4) [ inl e ↦ or_true _ _ e | inr e ↦ true_or _ _ e ]
    ])

-- What holds of all elements or of none holds of some, since there is one.
pub same_of_all : (every : Every) (spans : List Span) (b : Bool) → Ordered spans → b ≡ list_any (λ index. b) (indices (map run_of spans))
same_of_all every spans true o = sym (some_lies every (λ index. true) spans (lows spans) (lows_lie spans o) refl)
same_of_all every spans false o = sym (none (indices (map run_of spans))) where
  none : (xs : List (List ℤ)) → list_any (λ index. false) xs ≡ false
  none [] = refl
  none (x ∷ xs) = none xs

-- ---- one dimension of the base after another

any_or : {A : Type 0} (p q : A → Bool) (xs : List A) → list_any (λ x. p x || q x) xs ≡ (list_any p xs || list_any q xs)
any_or p q [] = refl
any_or p q (x ∷ xs) = ap (λ b. (p x || q x) || b) (any_or p q xs) ∙ four (p x) (q x) (list_any p xs) (list_any q xs) where
  four : (a b c d : Bool) → ((a || b) || (c || d)) ≡ ((a || c) || (b || d))
  four true b c d = refl
  four false true true d = refl
  four false true false d = refl
  four false false c d = refl

none_of : {A : Type 0} (xs : List A) → list_any (λ x. false) xs ≡ false
none_of [] = refl
none_of (x ∷ xs) = none_of xs

pub in_none : (array base : List Span) → is_outside array base [] ≡ false
unfolding is_outside
in_none array base = none_of (indices (map run_of array))

pub in_no_more : (array : List Span) (image : Image) (images : List Image) → is_outside array [] (image ∷ images) ≡ false
unfolding is_outside
in_no_more array image images = none_of (indices (map run_of array))

pub in_one_or_others : (array : List Span) (s : Span) (base : List Span) (image : Image) (images : List Image)
    → is_outside array (s ∷ base) (image ∷ images) ≡ (list_any (λ index. strays index image s) (indices (map run_of array)) || is_outside array base images)
unfolding is_outside
in_one_or_others array s base image images =
    any_or (λ index. strays index image s) (λ index. strays_in_some index images base) (indices (map run_of array))

-- all of them, for the tactics
pub ruleset outside_laws = (in_none, in_no_more, in_one_or_others)

pub no_images : (array base : List Span) (images : List Image) → length images ≡ 0 → false ≡ is_outside array base images
no_images array base [] h = sym (in_none array base)
no_images array base (image ∷ images) h = absurd (omega (arith, h))

pub no_base : (array base : List Span) (images : List Image) → length base ≡ 0 → false ≡ is_outside array base images
no_base array base [] h = sym (in_none array base)
no_base array [] (image ∷ images) h = sym (in_no_more array image images)
no_base array (s ∷ base) (image ∷ images) h = absurd (omega (arith, h))
