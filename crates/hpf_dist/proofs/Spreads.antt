-- Positions that stand evenly apart, one after another.
use Rattle.std.proofs.Common.{◌≡◌, ℕ, zero, suc, ◌+◌, ◌<◌, ◌≤◌, Bool, true, false, ◌||◌, min, [], map, All, length, ℤ, pos, ◌+ℤ◌, ◌*ℤ◌, refl, arith, subst, sym, FitsSigned, w64}
use Rattle.std.proofs.lemmas.Bool.{or_left as or_left_true, or_right, or_from}
use Rattle.std.proofs.lemmas.Int.{ints}
use Rattle.std.proofs.lemmas.List.Elements.{All-cons, All-nil}
use Rattle.std.proofs.lemmas.List.FromFn.{get_or-map-range_with_len, length-map-range_with_len}
use Rattle.std.specs.List.{range_with_len, list_any}
use Rattle.hpf_dist.specs.Axis.{Divided, AreBounds}
use Rattle.hpf_dist.specs.Spread.{IsPosition, spread}

-- the next position
pub next_position : (first step : ℤ) (k : ℕ) → first +ℤ (pos (k + 1) *ℤ step) ≡ (first +ℤ (pos k *ℤ step)) +ℤ step
next_position first step k = omega (arith, ints)

pub first_position : (first step : ℤ) → first +ℤ (pos 0 *ℤ step) ≡ first
first_position first step = omega (arith, ints)

-- each of them is a position
pub position_in : (axis : Divided) (first step : ℤ) (count k : ℕ) → All (IsPosition axis) (spread first step count) → k < count → IsPosition axis (first +ℤ (pos k *ℤ step))
position_in axis first step count k all within =
    let at : ℕ → ℤ = λ j. first +ℤ (pos j *ℤ step) in
    let enough : k < length (map at (range_with_len 0 count)) = omega (arith, length-map-range_with_len at 0 count) in
    subst (IsPosition axis) (get_or-map-range_with_len at 0 count k k first within (omega arith)) (all k first enough)

-- one passes
pub any_at : (p : ℤ → Bool) (f : ℕ → ℤ) (a n k j : ℕ) → k < n → a + k ≡ j → p (f j) ≡ true → list_any p (map f (range_with_len a n)) ≡ true
any_at p f a zero k j h e t = absurd (omega arith)
any_at p f a (suc n) zero j h e t =
    or_left_true (p (f a)) _ (subst (λ (i : ℕ). p (f i) ≡ true) (omega arith) t)
any_at p f a (suc n) (suc k) j h e t = or_right (p (f a)) _ (any_at p f (a + 1) n k j (omega arith) (omega arith) t)

-- none passes
pub any_none : (p : ℤ → Bool) (f : ℕ → ℤ) (a n : ℕ) → ((j : ℕ) → a ≤ j → j < a + n → p (f j) ≡ false) → list_any p (map f (range_with_len a n)) ≡ false
any_none p f a zero h = refl
any_none p f a (suc n) h =
    or_from (p (f a)) _ (h a (omega arith) (omega arith)) (any_none p f (a + 1) n (λ j low high. h j (omega arith) (omega arith)))

-- after one that passes or not, others like it change nothing
any_of_same : (p : ℤ → Bool) (f : ℕ → ℤ) (a n : ℕ) → ((j : ℕ) → f j ≡ f 0) → (b : Bool) → p (f 0) ≡ b → (b || false) ≡ (b || list_any p (map f (range_with_len a n)))
any_of_same p f a n h true e = refl
any_of_same p f a n h false e = sym (any_none p f a n (λ j low high. rw h e))

-- the first of several positions that are one
pub any_of_one : (p : ℤ → Bool) (first step : ℤ) (count : ℕ) → step ≡ pos 0 → list_any p (spread first step (min count 1)) ≡ list_any p (spread first step count)
any_of_one p first step zero e = refl
any_of_one p first step (suc n) e =
    let at : ℕ → ℤ = λ k. first +ℤ (pos k *ℤ step) in
    let one : min (suc n) 1 ≡ 1 = omega arith in
    rw one (any_of_same p at 1 n (λ j. rw e (omega (arith, ints))) (p (at 0)) refl)

-- what holds of positions holds of the first one
pub all_of_one : (P : ℤ → Type 0) (first step : ℤ) (count : ℕ) → All P (spread first step count) → All P (spread first step (min count 1))
all_of_one P first step zero h = h
all_of_one P first step (suc n) h =
    let one : min (suc n) 1 ≡ 1 = omega arith in
    rw one (All-cons P (first +ℤ (pos 0 *ℤ step)) [] (h 0 first (omega arith)) (All-nil P))

-- a position is within the range of its type
pub fits_position : (axis : Divided) (t : ℤ) → AreBounds axis.low axis.high → IsPosition axis t → FitsSigned w64 t
fits_position axis t bounds h = omega (arith, ints)
