-- Walking a run, and a linear image of its integers.
use Rattle.std.proofs.Common.{◌≡◌, ℕ, ◌+◌, ◌-◌, ◌^◌, ◌<◌, ◌≤◌, Bool, true, false, cond, List, [], ◌∷◌, ◌++◌, map, filter, All, ℤ, pos, ◌+ℤ◌, ◌-ℤ◌, ◌*ℤ◌, ◌<ℤ◌, unsigned_abs, FitsSigned, w64, refl, arith, append-nil}
use Rattle.std.specs.List.{range_with_len}
use Rattle.std.proofs.lemmas.Int.{ints, unsigned_abs-mul, fits_signed_from_abs}
use Rattle.std.proofs.lemmas.Nat.{mul-le}
use Rattle.std.proofs.lemmas.List.Elements.{All-filter}
use Rattle.std.proofs.lemmas.List.FromFn.{get_or-map-range_with_len, length-map-range_with_len, filter_of_map_range_with_len_more}
use Rattle.hpf_num.specs.declared.run.Run.{Run}
use Rattle.hpf_num.specs.Run.{integers}
use Rattle.hpf_num.specs.Runs.{IsSmall}
use Rattle.hpf_num.specs.Limits.{integer_limit}

-- ---- a linear image of a small integer
product_small : (a i : ℤ) → unsigned_abs a ≤ integer_limit → IsSmall i → unsigned_abs (a *ℤ i) ≤ 2 ^ 62 - 1
product_small a i h k =
    let small : unsigned_abs i ≤ integer_limit = omega (arith, ints) in
    rw (unsigned_abs-mul a i) (omega (arith, mul-le (unsigned_abs a) (unsigned_abs i) integer_limit integer_limit h small))

fits_abs : (a : ℤ) (n : ℕ) → unsigned_abs a ≤ n → n < 2 ^ 63 → FitsSigned w64 a
fits_abs a n h k = fits_signed_from_abs w64 a (omega arith)

sum_fits : (x b : ℤ) → unsigned_abs x ≤ 2 ^ 62 - 1 → unsigned_abs b ≤ 2 ^ 62 → FitsSigned w64 (x +ℤ b)
sum_fits x b h k = omega (arith, ints)

pub small_fits : (i : ℤ) → IsSmall i → FitsSigned w64 i
small_fits i h = omega (arith, ints)

pub product_fits : (a i : ℤ) → unsigned_abs a ≤ integer_limit → IsSmall i → FitsSigned w64 (a *ℤ i)
product_fits a i h k = fits_abs (a *ℤ i) (2 ^ 62 - 1) (product_small a i h k) (omega arith)

pub linear_fits : (a i b : ℤ) → unsigned_abs a ≤ integer_limit → IsSmall i → unsigned_abs b ≤ 2 ^ 62 → FitsSigned w64 ((a *ℤ i) +ℤ b)
linear_fits a i b h k l = sum_fits (a *ℤ i) b (product_small a i h k) l

-- ---- walking a run
-- the integers of a run at the places before k
abbrev pub front : Run → ℕ → List ℤ
front run k = map (λ j. run.low +ℤ pos j) (range_with_len 0 k)

front_below : (run : Run) (n : ℕ) (i : ℤ) → i ≡ run.low +ℤ pos n → All (λ j. j <ℤ i) (front run n)
front_below run n i e = λ j d below.
    let at : ℕ → ℤ = λ j. run.low +ℤ pos j in
    let within : j < n = omega (arith, length-map-range_with_len at 0 n) in
    rw (get_or-map-range_with_len at 0 n j j d within (omega arith), e) (omega (arith, ints))

-- what passes of them lies below the next one
pub passing_below : (p : ℤ → Bool) (run : Run) (k : ℕ) (i : ℤ) → i ≡ run.low +ℤ pos k → All (λ j. j <ℤ i) (filter p (front run k))
passing_below p run k i e = All-filter p (λ j. j <ℤ i) (front run k) (front_below run k i e)

next : (p : ℤ → Bool) (run : Run) (k : ℕ) (i : ℤ) → i ≡ run.low +ℤ pos k → filter p (front run (k + 1)) ≡ filter p (front run k) ++ cond (p i) (i ∷ []) []
next p run k i e = rw e (filter_of_map_range_with_len_more p (λ j. run.low +ℤ pos j) 0 k k (omega arith))

one_integer : (i : ℤ) → integers (record { low = i; high = i }) ≡ i ∷ []
one_integer i =
    let one : i -ℤ i +ℤ pos 1 ≡ pos 1 = omega (arith, ints) in
    let same : i +ℤ pos 0 ≡ i = omega (arith, ints) in
    rw (one, same) refl

-- one integer more, which passes or doesn't
pub one_passes : (p : ℤ → Bool) (run : Run) (k : ℕ) (i x y : ℤ) (before after : List ℤ) → i ≡ run.low +ℤ pos k → x ≡ i → y ≡ i → p i ≡ true → before ≡ filter p (front run k) → after ≡ before ++ integers (record { low = x; high = y }) → after ≡ filter p (front run (k + 1))
one_passes p run k i x y before after place same too t is more =
    rw (next p run k i place, t, more, is, same, too, one_integer i) refl

pub one_fails : (p : ℤ → Bool) (run : Run) (k : ℕ) (i : ℤ) (before after : List ℤ) → i ≡ run.low +ℤ pos k → p i ≡ false → before ≡ filter p (front run k) → after ≡ before → after ≡ filter p (front run (k + 1))
one_fails p run k i before after place t is same =
    rw (next p run k i place, t, same, is, append-nil) refl
