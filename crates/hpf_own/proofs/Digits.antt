-- The coordinates of a processor by division.
use Rattle.std.proofs.Common.{◌≡◌, ℕ, zero, suc, ◌+◌, ◌*◌, ◌/◌, ◌%◌, ◌<◌, ◌≤◌, Bool, true, false, ◌&&◌, List, [], ◌∷◌, ◌++◌, length, map, get_or, set, All, drop, drop-cons, add-one, arith, mul_comm, mul_assoc, sym, ap, ◌∙◌, refl}
use Rattle.std.specs.List.{range_with_len}
use Rattle.std.proofs.Math.Nat.{mul-le-mul_left, add-mul-mod_self_left, add-mul-div_left, div-add-mod}
use Rattle.std.proofs.lemmas.Nat.{div_below, mod_below, mul-add-lt}
use Rattle.std.proofs.lemmas.Bool.{and_from, and_parts}
use Rattle.std.proofs.Math.Bool.{and_assoc}
use native.Mathlib.Nat.{mod-eq_of_lt, div-eq_of_lt}
use Rattle.std.proofs.lemmas.List.Elements.{All-head, All-tail}
use Rattle.std.proofs.lemmas.List.FromFn.{length-range_with_len, get_or-range_with_len}
use Rattle.hpf_own.specs.Space.{product}
use Rattle.hpf_own.specs.Owners.{all_coordinates, coordinates}
use Rattle.hpf_own.proofs.Choices.{length-choices, get_or-choices}

-- one digit for each size, the first one varying fastest
abbrev pub digits : List ℕ → ℕ → List ℕ
digits [] k = []
digits (n ∷ ns) k = k % n ∷ digits ns (k / n)

lengths_of : (ns : List ℕ) → map length (map (range_with_len 0) ns) ≡ ns
lengths_of [] = refl
lengths_of (n ∷ ns) = cc (length-range_with_len 0 n, lengths_of ns)

pub length-all_coordinates : (sizes : List ℕ) → length (all_coordinates sizes) ≡ product sizes
length-all_coordinates sizes = length-choices (map (range_with_len 0) sizes) ∙ ap product (lengths_of sizes)

-- a number of an arrangement is below so many times its first size
pub rest_below : (n k p : ℕ) → k < n * p → (1 ≤ n) × (k / n < p)
rest_below zero k p h = absurd (omega arith)
rest_below (suc n) k p h = (omega arith, div_below k (suc n) p (omega arith) (rw (mul_comm p (suc n)) h))

pub coordinates-digits : (sizes : List ℕ) (k : ℕ) → k < product sizes → coordinates sizes k ≡ digits sizes k
coordinates-digits [] zero h = refl
coordinates-digits [] (suc k) h = absurd (omega arith)
coordinates-digits (n ∷ ns) k h =
    let rest = rest_below n k (product ns) h in
    let inside : k % n < n = mod_below k n rest.0 in
    let place : (k / n) * length (range_with_len 0 n) + k % n ≡ k = rw (length-range_with_len 0 n) (omega arith) in
    let found = get_or-choices (range_with_len 0 n) (map (range_with_len 0) ns) (k / n) (k % n) [] 0 (omega (arith, length-all_coordinates ns)) (omega (arith, length-range_with_len 0 n)) in
    let digit : get_or (range_with_len 0 n) (k % n) 0 ≡ k % n = get_or-range_with_len 0 n (k % n) 0 inside ∙ omega arith in
    let others = coordinates-digits ns (k / n) rest.1 in
    ap (λ (j : ℕ). get_or (all_coordinates (n ∷ ns)) j []) (sym place) ∙ found
    ∙ ap (λ (j : ℕ). j ∷ coordinates ns (k / n)) digit ∙ ap (λ (js : List ℕ). k % n ∷ js) others

pub length-digits : (sizes : List ℕ) (k : ℕ) → length (digits sizes k) ≡ length sizes
length-digits [] k = refl
length-digits (n ∷ ns) k = ap suc (length-digits ns (k / n))

and_true : (b : Bool) → (b && true) ≡ b
and_true true = refl
and_true false = refl

-- whether each digit passes the test of its place
abbrev pub passes : List ℕ → (ℕ → ℕ → Bool) → ℕ → Bool
passes [] f k = true
passes (n ∷ ns) f k = f 0 (k % n) && passes ns (λ e. f (suc e)) (k / n)

turn : (m c p k : ℕ) → k + c * (m * p) ≡ k + m * (c * p)
turn m c p k = ap (λ (n : ℕ). k + n) (sym (mul_assoc c m p) ∙ ap (λ (n : ℕ). n * p) (mul_comm c m) ∙ mul_assoc m c p)

-- one size more
pub passes-push : (ns : List ℕ) (n : ℕ) (f : ℕ → ℕ → Bool) (k c : ℕ) → k < product ns → All (λ size. 1 ≤ size) ns → c < n → passes (ns ++ n ∷ []) f (k + c * product ns) ≡ (passes ns f k && f (length ns) c)
passes-push [] n f k c h some below =
    let is : k + c * 1 ≡ c = omega arith in
    let same : (k + c * 1) % n ≡ c = rw is (mod-eq_of_lt below) in
    rw same (and_true (f 0 c))
passes-push (m ∷ ns) n f k c h some below =
    let first = All-head (λ size. 1 ≤ size) m ns some in
    let turned : k + c * (m * product ns) ≡ k + m * (c * product ns) = turn m c (product ns) k in
    let digit : (k + m * (c * product ns)) % m ≡ k % m = add-mul-mod_self_left k m (c * product ns) in
    let rest : (k + m * (c * product ns)) / m ≡ k / m + c * product ns = add-mul-div_left k (c * product ns) first in
    rw (turned, digit, rest, passes-push ns n (λ e. f (suc e)) (k / m) c (rest_below m k (product ns) h).1 (All-tail (λ size. 1 ≤ size) m ns some) below) (sym (and_assoc (f 0 (k % m)) (passes ns (λ e. f (suc e)) (k / m)) (f (suc (length ns)) c)))

-- a number passes where each of its digits does
pub passes_from : (ns : List ℕ) (f : ℕ → ℕ → Bool) (k : ℕ) → ((e : ℕ) → e < length ns → f e (get_or (digits ns k) e 0) ≡ true) → passes ns f k ≡ true
passes_from [] f k h = refl
passes_from (n ∷ ns) f k h = and_from (f 0 (k % n)) _ (h 0 (omega arith)) (passes_from ns (λ e. f (suc e)) (k / n) (λ e below. h (suc e) (omega arith)))

pub passes_at : (ns : List ℕ) (f : ℕ → ℕ → Bool) (k e : ℕ) → passes ns f k ≡ true → e < length ns → f e (get_or (digits ns k) e 0) ≡ true
passes_at [] f k e h below = absurd (omega arith)
passes_at (n ∷ ns) f k zero h below = (and_parts (f 0 (k % n)) _ h).0
passes_at (n ∷ ns) f k (suc e) h below = passes_at ns (λ e. f (suc e)) (k / n) e (and_parts (f 0 (k % n)) _ h).1 (omega arith)

pub no_quotient : (n c r : ℕ) → c < n → c / n + r ≡ r
no_quotient n c r h = rw (div-eq_of_lt h) (omega arith)

pub one_below : (n c r p : ℕ) → c < n → r < p → c + n * r < n * p
one_below n c r p h k = omega (arith, mul-add-lt r n c p k h, mul_comm r n)

-- some number does, where in each place some digit does
pub passes_some : (ns : List ℕ) (f : ℕ → ℕ → Bool) → ((e : ℕ) → e < length ns → (c : ℕ) × (c < get_or ns e 0) × (f e c ≡ true)) → (k : ℕ) × (k < product ns) × (passes ns f k ≡ true)
passes_some [] f h = (0, omega arith, refl)
passes_some (n ∷ ns) f h =
    let first = h 0 (omega arith) in
    let rest = passes_some ns (λ e. f (suc e)) (λ e below. h (suc e) (omega arith)) in
    let digit : (first.0 + n * rest.0) % n ≡ first.0 = add-mul-mod_self_left first.0 n rest.0 ∙ mod-eq_of_lt first.1 in
    let quotient : (first.0 + n * rest.0) / n ≡ rest.0 = add-mul-div_left first.0 rest.0 (omega arith) ∙ no_quotient n first.0 rest.0 first.1 in
    (first.0 + n * rest.0, one_below n first.0 rest.0 (product ns) first.1 rest.1, rw (digit, quotient) (and_from (f 0 first.0) _ first.2 rest.2))

-- a number whose digits are all at most those of another is at most that
pub digits_order : (ns : List ℕ) (p q : ℕ) → p < product ns → ((e : ℕ) → e < length ns → get_or (digits ns p) e 0 ≤ get_or (digits ns q) e 0) → p ≤ q
digits_order [] p q h each = omega arith
digits_order (n ∷ ns) p q h each =
    let low = each 0 (omega arith) in
    let high = digits_order ns (p / n) (q / n) (rest_below n p (product ns) h).1 (λ e below. each (suc e) (omega arith)) in
    omega (arith, div-add-mod p n, div-add-mod q n, mul-le-mul_left n high)

-- a lower digit in one place makes a lower number
pub lower_digit : (ns : List ℕ) (p e c : ℕ) → p < product ns → e < length ns → c < get_or (digits ns p) e 0 → (q : ℕ) × (q < p) × (digits ns q ≡ set (digits ns p) e c)
lower_digit [] p e c h within lower = absurd (omega arith)
lower_digit (n ∷ ns) p zero c h within lower =
    let some = (rest_below n p (product ns) h).0 in
    let small : c < n = omega (arith, mod_below p n some) in
    let digit : (c + n * (p / n)) % n ≡ c = add-mul-mod_self_left c n (p / n) ∙ mod-eq_of_lt small in
    let quotient : (c + n * (p / n)) / n ≡ p / n = add-mul-div_left c (p / n) some ∙ no_quotient n c (p / n) small in
    (c + n * (p / n), omega (arith, div-add-mod p n), rw (digit, quotient) refl)
lower_digit (n ∷ ns) p (suc e) c h within lower =
    let below = rest_below n p (product ns) h in
    let lower_rest = lower_digit ns (p / n) e c below.1 (omega arith) lower in
    let r = lower_rest.0 in
    let first = mod_below p n below.0 in
    let digit : (p % n + n * r) % n ≡ p % n = add-mul-mod_self_left (p % n) n r ∙ mod-eq_of_lt first in
    let quotient : (p % n + n * r) / n ≡ r = add-mul-div_left (p % n) r below.0 ∙ no_quotient n (p % n) r first in
    let more : r + 1 ≤ p / n = omega (arith, lower_rest.1) in
    (p % n + n * r, omega (arith, div-add-mod p n, mul-le-mul_left n more), rw (digit, quotient, lower_rest.2) refl)

-- tests that agree pass the same numbers
pub passes-same : (ns : List ℕ) (f g : ℕ → ℕ → Bool) → ((e c : ℕ) → f e c ≡ g e c) → (k : ℕ) → passes ns f k ≡ passes ns g k
passes-same [] f g h k = refl
passes-same (n ∷ ns) f g h k =
    ap (λ (b : Bool). b && passes ns (λ e. f (suc e)) (k / n)) (h 0 (k % n))
    ∙ ap (λ (b : Bool). g 0 (k % n) && b) (passes-same ns (λ e. f (suc e)) (λ e. g (suc e)) (λ e c. h (suc e) c) (k / n))

-- the test from a place on: that of its digit, and then that of the rest
pub passes-drop : (ns : List ℕ) (f : ℕ → ℕ → Bool) (e k : ℕ) → e < length ns → passes (drop e ns) (λ j. f (e + j)) k ≡ (f e (k % get_or ns e 0) && passes (drop (e + 1) ns) (λ j. f (e + 1 + j)) (k / get_or ns e 0))
passes-drop ns f e k below =
    let split : drop e ns ≡ get_or ns e 0 ∷ drop (e + 1) ns = rw (add-one) (drop-cons ns e 0 below) in
    rw split (
    ap (λ (j : ℕ). f j (k % get_or ns e 0) && passes (drop (e + 1) ns) (λ i. f (e + suc i)) (k / get_or ns e 0)) (let z : e + 0 ≡ e = omega arith in z)
    ∙ ap (λ (b : Bool). f e (k % get_or ns e 0) && b)
    (passes-same (drop (e + 1) ns) (λ i. f (e + suc i)) (λ i. f (e + 1 + i)) (λ i c. ap (λ (j : ℕ). f j c) (let z : e + suc i ≡ e + 1 + i = omega arith in z)) (k / get_or ns e 0))
    )

-- one digit more
pub digits-push : (ns : List ℕ) (n k c : ℕ) → k < product ns → All (λ size. 1 ≤ size) ns → c < n → digits (ns ++ n ∷ []) (k + c * product ns) ≡ digits ns k ++ c ∷ []
digits-push [] n k c h some below =
    let is : k + c * 1 ≡ c = omega arith in
    let same : (k + c * 1) % n ≡ c = rw is (mod-eq_of_lt below) in
    ap (λ (j : ℕ). j ∷ []) same
digits-push (m ∷ ns) n k c h some below =
    let first = All-head (λ size. 1 ≤ size) m ns some in
    let digit : (k + m * (c * product ns)) % m ≡ k % m = add-mul-mod_self_left k m (c * product ns) in
    let rest : (k + m * (c * product ns)) / m ≡ k / m + c * product ns = add-mul-div_left k (c * product ns) first in
    rw (turn m c (product ns) k, digit, rest, digits-push ns n (k / m) c (rest_below m k (product ns) h).1 (All-tail (λ size. 1 ≤ size) m ns some) below) refl
