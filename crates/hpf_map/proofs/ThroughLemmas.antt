-- Positions by going through a base.
use Rattle.std.proofs.Common.{◌≡◌, ◌==◌, ℕ, suc, ◌<◌, Bool, true, false, List, [], ◌∷◌, length, map, get_or, ℤ, pos, ◌+ℤ◌, ◌*ℤ◌, ◌≢◌, arith, sym, ap, ◌∙◌, subst, refl, eq-eqb}
use Rattle.std.proofs.Math.ListN.{set}
use Rattle.std.specs.Prelude.{Contains}
use Rattle.std.proofs.lemmas.List.{get_or-set_same, get_or-set_other}
use Rattle.hpf_dist.specs.Spread.{spread}
use Rattle.hpf_own.specs.Image.{positions}
use Rattle.hpf_own.specs.Mapping.{follows, FollowsBelow}
use Rattle.hpf_own.specs.declared.image.Image.{Image}
use Rattle.hpf_own.specs.declared.image.Image.TheVariants.{Along, Fixed, Spread}
use Rattle.hpf_map.specs.Composed.{no_image}
use Rattle.hpf_map.proofs.ChoiceLemmas.{IsChoice, choice_at, choice_set, choice_length, some_choice, contains_here, contains_only, contains_map, contains_from_map}

-- the positions in a dimension of the next base, of all positions in the dimensions of a base
abbrev pub reached : List (List ℤ) → Image → List ℤ
reached between (Along dim a b) = map (λ u. a *ℤ u +ℤ b) (get_or between dim [])
reached between (Fixed n) = n ∷ []
reached between (Spread first step count) = spread first step count

-- each image follows a dimension that there is
abbrev pub FollowBelow : ℕ → List Image → Type 0
FollowBelow rank [] = Unit {0}
FollowBelow rank (image ∷ images) = FollowsBelow rank image × FollowBelow rank images

-- each dimension is followed once at most
abbrev pub FollowOnce : List Image → Type 0
FollowOnce images = (d e f : ℕ) → e < length images → f < length images
    → follows d (get_or images e no_image) ≡ true → follows d (get_or images f no_image) ≡ true → e ≡ f

-- ---- from a position of the base

step_from : (between : List (List ℤ)) (image : Image) (j : List ℤ) (v : ℤ) → FollowsBelow (length between) image → IsChoice between j → Contains (positions image j) v → Contains (reached between image) v
step_from between (Along dim a b) j v below chosen h =
    let f : ℤ → ℤ = λ u. a *ℤ u +ℤ b in
    subst (λ w. Contains (map f (get_or between dim [])) w) (contains_only _ v h)
    (contains_map f (get_or between dim []) (get_or j dim (pos 0)) (choice_at between j dim (pos 0) chosen below))
step_from between (Fixed n) j v below chosen h = h
step_from between (Spread first step count) j v below chosen h = h

pub reached_from : (between : List (List ℤ)) (images : List Image) (j us : List ℤ) → FollowBelow (length between) images → IsChoice between j → IsChoice (map (λ image. positions image j) images) us → IsChoice (map (reached between) images) us
reached_from between [] j us below chosen h = h
reached_from between (image ∷ images) j [] below chosen h = absurd h
reached_from between (image ∷ images) j (u ∷ us) below chosen h =
    (step_from between image j u below.0 chosen h.0, reached_from between images j us below.1 chosen h.1)

-- ---- to a position of the base

eqb_off : (e d : ℕ) → (e == d) ≡ false → e ≢ d
eqb_off e d off same = let on : (e == d) ≡ true = eq-eqb e d same in absurd cc

positions_set : (image : Image) (j : List ℤ) (d : ℕ) (x : ℤ) → follows d image ≡ false → positions image (set j d x) ≡ positions image j
positions_set (Along e a b) j d x off =
    ap (λ u. (a *ℤ u +ℤ b) ∷ []) (get_or-set_other j d e x (pos 0) (eqb_off e d off))
positions_set (Fixed n) j d x off = refl
positions_set (Spread first step count) j d x off = refl

-- no image follows a dimension
abbrev pub FollowNone : ℕ → List Image → Type 0
FollowNone d images = (e : ℕ) → e < length images → follows d (get_or images e no_image) ≡ false

images_set : (images : List Image) (j us : List ℤ) (d : ℕ) (x : ℤ) → FollowNone d images → IsChoice (map (λ image. positions image j) images) us → IsChoice (map (λ image. positions image (set j d x)) images) us
images_set [] j us d x none h = h
images_set (image ∷ images) j [] d x none h = absurd h
images_set (image ∷ images) j (u ∷ us) d x none h = (
  subst (λ vs. Contains vs u) (sym (positions_set image j d x (none 0 (omega arith)))) h.0,
  images_set images j us d x (λ e below. none (suc e) (omega arith)) h.1,
)

bool_off : (b : Bool) → (b ≡ true → ⊥) → b ≡ false
bool_off true h = absurd (h refl)
bool_off false h = refl

pub once_rest : (image : Image) (images : List Image) → FollowOnce (image ∷ images) → FollowOnce images
once_rest image images once d e f below under one other =
    let same : suc e ≡ suc f = once d (suc e) (suc f) (omega arith) (omega arith) one other in
    omega arith

none_rest : (image : Image) (images : List Image) (d : ℕ) → FollowOnce (image ∷ images) → follows d image ≡ true → FollowNone d images
none_rest image images d once here e below =
    bool_off _ (λ there. let same : 0 ≡ suc e = once d 0 (suc e) (omega arith) (omega arith) here there in absurd (omega arith))

-- a position of the base from which these positions are reached
abbrev IsFrom : List (List ℤ) → List Image → List ℤ → List ℤ → Type 0
IsFrom between images us j = IsChoice between j × IsChoice (map (λ image. positions image j) images) us

step_to : (between : List (List ℤ)) (image : Image) (images : List Image) (u : ℤ) (us j : List ℤ) → FollowsBelow (length between) image → FollowOnce (image ∷ images) → Contains (reached between image) u → IsFrom between images us j → (k : List ℤ) × IsFrom between (image ∷ images) (u ∷ us) k
step_to between (Along dim a b) images u us j below once h from =
    let f : ℤ → ℤ = λ v. a *ℤ v +ℤ b in
    let v = contains_from_map f (get_or between dim []) u h in
    let k = set j dim v.0 in
    let long : length j ≡ length between = choice_length between j from.0 in
    let is : f (get_or k dim (pos 0)) ≡ u = ap f (get_or-set_same j dim v.0 (pos 0) (omega arith)) ∙ v.2 in
    let here = subst (λ w. Contains (f (get_or k dim (pos 0)) ∷ []) w) is (contains_here _ []) in
    let rest = images_set images j us dim v.0 (none_rest (Along dim a b) images dim once (eq-eqb dim dim refl)) from.1 in
    (k, (choice_set between j dim v.0 from.0 below v.1, (here, rest)))
step_to between (Fixed n) images u us j below once h from = (j, (from.0, (h, from.1)))
step_to between (Spread first step count) images u us j below once h from = (j, (from.0, (h, from.1)))

pub reached_to : (between : List (List ℤ)) (images : List Image) (us : List ℤ) → ((k : ℕ) → k < length between → 0 < length (get_or between k [])) → FollowBelow (length between) images → FollowOnce images → IsChoice (map (reached between) images) us → (j : List ℤ) × IsFrom between images us j
reached_to between [] us some below once h = let r = some_choice between (pos 0) some in (r.0, (r.1, h))
reached_to between (image ∷ images) [] some below once h = absurd h
reached_to between (image ∷ images) (u ∷ us) some below once h =
    let r = reached_to between images us some below.1 (once_rest image images once) h.1 in
    step_to between image images u us r.0 below.0 once h.0 r.1
