-- A permutation of the numbers from 1 on.
use Rattle.std.proofs.Common.{◌≡◌, ℕ, zero, suc, ◌+◌, ◌<◌, ◌≤◌, List, [], ◌∷◌, length, get_or, Contains, take, Bool, false, eqb, ◌==◌, Decides, arith, sym, ap, ◌∙◌, subst, refl}
use Rattle.std.specs.List.{range_with_len, remove}
use Rattle.std.specs.List.Sorted.{IsPermutation}
use Rattle.std.specs.List.{IsAnyAnswer}
use Rattle.std.proofs.lemmas.Bool.{false≢true}
use Rattle.std.proofs.lemmas.Bool.Decides.{Decides-eqb}
use Rattle.std.proofs.lemmas.List.Elements.{contains_decides, Decides-contains}
use Rattle.std.proofs.lemmas.List.Sorted.{IsPermutation-refl, IsPermutation-cons, IsPermutation-remove, IsPermutation-sym, IsPermutation-trans, length_permutation, Contains-permutation}
use Rattle.hpf_own.specs.Lists.{IsPerm}
use Rattle.std.proofs.lemmas.List.FromFn.{length-range_with_len, get_or-range_with_len}
use Rattle.hpf_own.specs.Limits.{dimension_limit}

empty_is : (ys : List ℕ) → length ys ≡ 0 → ys ≡ []
empty_is [] e = refl
empty_is (y ∷ ys) e = absurd (omega arith)

-- what a list holds besides its first item stands behind that
behind : (y : ℕ) (ys : List ℕ) (x : ℕ) → Contains (y ∷ ys) x → (y ≡ x → ⊥) → Contains ys x
behind y ys x (zero, within, is) other = absurd (other is)
behind y ys x (suc k, within, is) other = (k, omega arith, is)

-- as many entries as numbers, with each number among them, are these numbers in some order
pub permutation_from : (n a : ℕ) (ys : List ℕ) → length ys ≡ n → ((x : ℕ) → a ≤ x → x < a + n → Contains ys x) → IsPermutation (range_with_len a n) ys
permutation_from zero a ys e each = subst (IsPermutation []) (sym (empty_is ys e)) (IsPermutation-refl [])
permutation_from (suc n) a ys e each =
    let first = each a (omega arith) (omega arith) in
    let moved = IsPermutation-remove ys first.0 a first.1 (sym first.2) in
    let fewer : length (remove ys first.0) ≡ n = omega (arith, length_permutation _ _ moved) in
    let rest = permutation_from n (a + 1) (remove ys first.0) fewer
    (λ x low high. behind a _ x (Contains-permutation _ _ x moved (each x (omega arith) (omega arith))) (λ same. absurd (omega arith))) in
    IsPermutation-trans _ _ _ (IsPermutation-cons a _ _ rest) (IsPermutation-sym _ _ moved)

-- each of these numbers is among the entries of a permutation of them
pub permutation_has : (n : ℕ) (ys : List ℕ) (k : ℕ) → IsPermutation (range_with_len 1 n) ys → k < n → Contains ys (k + 1)
permutation_has n ys k h within =
    let at : get_or (range_with_len 1 n) k (k + 1) ≡ k + 1 = get_or-range_with_len 1 n k (k + 1) within ∙ omega arith in
    Contains-permutation _ _ (k + 1) h (k, omega (arith, length-range_with_len 1 n), at)

-- the numbers from 1 on, cut short
front_of : (a n k : ℕ) → k ≤ n → take k (range_with_len a n) ≡ range_with_len a k
front_of a n zero h = refl
front_of a zero (suc k) h = absurd (omega arith)
front_of a (suc n) (suc k) h = ap (λ (xs : List ℕ). a ∷ xs) (front_of (a + 1) n k (omega arith))

pub first_of_seven : (n : ℕ) → n ≤ dimension_limit → take n (1 ∷ 2 ∷ 3 ∷ 4 ∷ 5 ∷ 6 ∷ 7 ∷ []) ≡ range_with_len 1 n
first_of_seven n h = front_of 1 7 n h

-- the numbers from 1 on are a permutation of themselves
pub ordered_is : (n : ℕ) → 1 ≤ n → n ≤ dimension_limit → IsPerm (range_with_len 1 n)
ordered_is n least greatest =
    record {
      short = record { some = omega (arith, length-range_with_len 1 n); few = omega (arith, length-range_with_len 1 n) };
      permutes = rw (length-range_with_len 1 n) (IsPermutation-refl (range_with_len 1 n));
    }

-- a number is among the entries exactly where a search says so
pub has_decides : (xs : List ℕ) (x : ℕ) (r : Bool) → IsAnyAnswer (λ y t. (y == x) ≡ t) xs r → Decides r (Contains xs x)
has_decides xs x r h = Decides-contains xs x r (contains_decides eqb Decides-eqb xs x r h)

pub lacks_one : (ys : List ℕ) (k : ℕ) → k < length ys → Decides false (Contains ys (k + 1)) → IsPermutation (range_with_len 1 (length ys)) ys → ⊥
lacks_one ys k within none h = false≢true (none.1 (permutation_has (length ys) ys k h within))
