-- Members of a set, written one after another.
use Rattle.std.proofs.Common.{◌≡◌, ℕ, zero, suc, ◌+◌, ◌<◌, ◌≤◌, Bool, true, false, ◌&&◌, nat_eq, List, [], ◌∷◌, ◌++◌, length, take, set as store, arith, sym, ap, ◌∙◌, refl}
use Rattle.std.specs.List.{filter, range_with_len}
use Rattle.std.specs.Int.{bit_at}
use Rattle.std.proofs.lemmas.Bool.{lt-ltb, le-ltb}
use Rattle.std.proofs.lemmas.List.{length-set, take_more_set}
use Rattle.std.proofs.lemmas.List.FromFn.{length-range_with_len}
use Rattle.std.proofs.lemmas.List.Sums.{length-filter, count_by-le-length}
use Rattle.hpf_own.specs.OwnerSet.{bit_of, IsSetOf}
use Rattle.hpf_own.specs.Members.{members}
use Rattle.hpf_own.proofs.Next.{filter_all, filter_more}
use Rattle.hpf_dist.specs.Limits.{processor_limit}

abbrev pub is_member : ℕ → ℕ → Bool
is_member set k = nat_eq (bit_at set k) 1

zero_no : (b : ℕ) → b ≡ 0 → nat_eq b 1 ≡ false
zero_no b e = rw e refl

one_yes : (b : ℕ) → b ≡ 1 → nat_eq b 1 ≡ true
one_yes b e = rw e refl

-- the members below a number, written from the front on
pub record AreTaken (set : ℕ) (numbers : List ℕ) (count from : ℕ) : Type 0 where
  pub size : length numbers ≡ processor_limit
  pub taken : take count numbers ≡ filter (is_member set) (range_with_len 0 from)
  pub few : count ≤ from
  pub most : from ≤ processor_limit

pub taken_none : (set : ℕ) (numbers : List ℕ) → length numbers ≡ processor_limit → AreTaken set numbers 0 0
taken_none set numbers size = record { size = size; taken = refl; few = omega arith; most = omega arith }

pub taken_more : (set : ℕ) (numbers : List ℕ) (count from p : ℕ) → AreTaken set numbers count from → from ≤ p → p < processor_limit → bit_at set p ≡ 1 → ((k : ℕ) → from ≤ k → k < p → bit_at set k ≡ 0) → AreTaken set (store numbers count p) (count + 1) (p + 1)
taken_more set numbers count from p h low high one before =
    record {
      size = length-set numbers count p ∙ h.size;
      taken = take_more_set numbers count p (let f = h.few in let n = h.size in omega arith)
          ∙ ap (λ (ps : List ℕ). ps ++ p ∷ []) h.taken
          ∙ sym (filter_more (is_member set) from p low (one_yes (bit_at set p) one) (λ k least most. zero_no (bit_at set k) (before k least most)));
      few = let f = h.few in omega arith;
      most = omega arith;
    }

pub taken_all : (set : ℕ) (numbers : List ℕ) (count from : ℕ) → AreTaken set numbers count from → ((k : ℕ) → from ≤ k → bit_at set k ≡ 0) → take count numbers ≡ members set
taken_all set numbers count from h none =
    h.taken ∙ sym (filter_all (is_member set) from processor_limit h.most (λ k low high. zero_no (bit_at set k) (none k low)))

-- tests that agree on some numbers
same_step : (p q : ℕ → Bool) (x : ℕ) (xs : List ℕ) (b : Bool) → p x ≡ b → q x ≡ b → filter p xs ≡ filter q xs → filter p (x ∷ xs) ≡ filter q (x ∷ xs)
same_step p q x xs true e f h = rw (e, f) (ap (λ (ys : List ℕ). x ∷ ys) h)
same_step p q x xs false e f h = rw (e, f) h

filter_same : (p q : ℕ → Bool) (a n : ℕ) → ((k : ℕ) → a ≤ k → k < a + n → p k ≡ q k) → filter p (range_with_len a n) ≡ filter q (range_with_len a n)
filter_same p q a zero h = refl
filter_same p q a (suc n) h =
    same_step p q a (range_with_len (a + 1) n) (q a) (h a (omega arith) (omega arith)) refl (filter_same p q (a + 1) n (λ k low high. h k (omega arith) (omega arith)))

-- the members of the set of the numbers below n that pass a test
bit_is : (b : Bool) → nat_eq (bit_of b) 1 ≡ b
bit_is true = refl
bit_is false = refl

member_is : (q : ℕ → Bool) (n set k : ℕ) → IsSetOf q n set → k < n → is_member set k ≡ q k
member_is q n set k h below =
    ap (λ (x : ℕ). nat_eq x 1) (h.bits k ∙ ap (λ (t : Bool). bit_of (t && q k)) (lt-ltb k n below)) ∙ bit_is (q k)

beyond : (q : ℕ → Bool) (n set k : ℕ) → IsSetOf q n set → n ≤ k → is_member set k ≡ false
beyond q n set k h low =
    ap (λ (x : ℕ). nat_eq x 1) (h.bits k ∙ ap (λ (t : Bool). bit_of (t && q k)) (le-ltb k n low))

pub members_are : (q : ℕ → Bool) (n set : ℕ) → IsSetOf q n set → n ≤ processor_limit → members set ≡ filter q (range_with_len 0 n)
members_are q n set h few =
    filter_all (is_member set) n processor_limit few (λ k low high. beyond q n set k h low)
    ∙ filter_same (is_member set) q 0 n (λ k low high. member_is q n set k h (omega arith))

pub filter_fewer : (q : ℕ → Bool) (a n : ℕ) → length (filter q (range_with_len a n)) ≤ n
filter_fewer q a n = omega (arith, length-filter q (range_with_len a n), count_by-le-length q (range_with_len a n), length-range_with_len a n)
