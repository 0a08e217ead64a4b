-- How many items there are, counted by a number that each of them has.
use Rattle.std.proofs.Common.{◌≡◌, ℕ, zero, suc, ◌+◌, ◌<◌, ◌≤◌, ◌==◌, Bool, true, false, cond, List, [], ◌∷◌, length, map, filter, Contains, ℤ, refl, sym, ap, ◌∙◌, arith, inl, inr}
use Rattle.std.specs.List.{range_with_len, sum_by}
use Rattle.std.proofs.lemmas.Bool.{false≢true, cases_order}
use Rattle.std.proofs.lemmas.Bool.Decides.{Decides-eqb}
use Rattle.std.proofs.lemmas.List.{length-map}
use Rattle.std.proofs.lemmas.List.Sums.{sum_by-cons}
use Rattle.hpf_own.specs.Space.{product}
use Rattle.hpf_own.specs.Mapping.{PlainMapping}
use Rattle.hpf_own.specs.Owners.{sender, numbers}
use Rattle.hpf_own.specs.Held.{held_part}
use Rattle.hpf_sched.specs.Transfer.{source_of, arrivals, move_of, transfer}
use Rattle.hpf_sched.proofs.Arriving.{Known}
use Rattle.hpf_sched.proofs.Finding.{contains_head, contains_behind}
use Rattle.hpf_sched.proofs.Planning.{Pair, source_lies}

-- ---- sums
sum_same : {X : Type 0} (f g : X → ℕ) (xs : List X) → ((x : X) → f x ≡ g x) → sum_by f xs ≡ sum_by g xs
sum_same f g [] e = refl
sum_same f g (x ∷ xs) e = omega (arith, sum_by-cons f x xs, sum_by-cons g x xs, e x, sum_same f g xs e)

sum_both : {X : Type 0} (f g : X → ℕ) (xs : List X) → sum_by (λ x. f x + g x) xs ≡ sum_by f xs + sum_by g xs
sum_both f g [] = refl
sum_both f g (x ∷ xs) =
    omega (arith, sum_by-cons (λ x. f x + g x) x xs, sum_by-cons f x xs, sum_by-cons g x xs, sum_both f g xs)

sum_none : {X : Type 0} (xs : List X) → sum_by (λ x. 0) xs ≡ 0
sum_none [] = refl
sum_none (x ∷ xs) = omega (arith, sum_by-cons (λ x. 0) x xs, sum_none xs)

-- ---- 1 for one number, 0 for another
abbrev unit : Bool → ℕ
unit b = cond b 1 0

abbrev mark : ℕ → ℕ → ℕ
mark y p = unit (y == p)

mark_by : (y p : ℕ) (b : Bool) → (b ≡ true → y ≡ p) → (y ≡ p → ⊥) → unit b ≡ 0
mark_by y p true is other = absurd (other (is refl))
mark_by y p false is other = refl

other_number : (y p : ℕ) → (y ≡ p → ⊥) → mark y p ≡ 0
other_number y p other = mark_by y p (y == p) (λ e. (Decides-eqb y p).0 e) other

same_by : (b : Bool) → b ≡ true → unit b ≡ 1
same_by true e = refl
same_by false e = absurd (false≢true e)

same_number : (y p : ℕ) → y ≡ p → mark y p ≡ 1
same_number y p is = same_by (y == p) ((Decides-eqb y p).1 is)

-- none of these numbers is one below them, and one is one among them
none_is : (y a n : ℕ) → y < a → sum_by (mark y) (range_with_len a n) ≡ 0
none_is y a zero below = refl
none_is y a (suc n) below =
    let here = other_number y a (λ e. omega (arith, e)) in
    omega (arith, sum_by-cons (mark y) a (range_with_len (a + 1) n), here, none_is y (a + 1) n (omega arith))

one_is : (y a n : ℕ) → a ≤ y → y < a + n → sum_by (mark y) (range_with_len a n) ≡ 1
one_is y a zero above below = absurd (omega arith)
one_is y a (suc n) above below =
    let head = sum_by-cons (mark y) a (range_with_len (a + 1) n) in
    elim (cases_order a y) [
      | inl at ↦ let here = same_number y a (sym at) in omega (arith, head, here, none_is y (a + 1) n (omega (arith, at)))
      | inr other ↦
          elim other [
            | inl less ↦ let here = other_number y a (λ e. omega (arith, e, less)) in omega (arith, head, here, one_is y (a + 1) n (omega (arith, less)) (omega arith))
            | inr more ↦ absurd (omega (arith, more))
          ]
    ]

-- ---- items by their number
one_more : {A : Type 0} (b : Bool) (x : A) (xs : List A) → length (cond b (x ∷ xs) xs) ≡ unit b + length xs
one_more true x xs = omega arith
one_more false x xs = omega arith

-- all items are counted, where each has one of these numbers
pub all_counted : {A : Type 0} (f : A → ℕ) (n : ℕ) (xs : List A) → ((x : A) → Contains xs x → f x < n) → sum_by (λ p. length (filter (λ x. f x == p) xs)) (range_with_len 0 n) ≡ length xs
all_counted f n [] below = sum_none (range_with_len 0 n)
all_counted f n (x ∷ xs) below =
    let parts = sum_same (λ p. length (filter (λ x. f x == p) (x ∷ xs))) (λ p. mark (f x) p + length (filter (λ x. f x == p) xs)) (range_with_len 0 n) (λ p. one_more (f x == p) x (filter (λ x. f x == p) xs)) in
    let both = sum_both (mark (f x)) (λ p. length (filter (λ x. f x == p) xs)) (range_with_len 0 n) in
    let one = one_is (f x) 0 n (omega arith) (omega (arith, below x (contains_head x xs))) in
    let rest = all_counted f n xs (λ y c. below y (contains_behind x xs y c)) in
    omega (arith, parts, both, one, rest)

-- ---- what goes from all senders
pub all_arrive : (from to : PlainMapping) (perm : List ℕ) (q : ℕ) → Known from to perm q → sum_by (λ p. length (transfer from to perm p q)) (numbers from.procs) ≡ length (held_part to q).indices
all_arrive from to perm q known =
    let sent = λ (i : List ℤ). sender from (source_of from to perm i) in
    let held = (held_part to q).indices in
    sum_same (λ p. length (transfer from to perm p q)) (λ p. length (filter (λ i. sent i == p) held)) (numbers from.procs) (λ p. length-map (arrivals from to perm p q) (move_of from to perm p q))
    ∙ all_counted sent (product from.procs) held (λ i c. known.below (source_of from to perm i) (source_lies from to perm 0 q (known.pair 0 known.some) i c))
