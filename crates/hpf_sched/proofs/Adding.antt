-- Places added up over dimensions.
use Rattle.std.proofs.Common.{◌≡◌, ℕ, zero, suc, ◌+◌, ◌-◌, ◌*◌, ◌<◌, List, [], ◌∷◌, length, get_or, take, ℤ, pos, mul_assoc, refl, sym, ap, ◌∙◌, arith}
use Rattle.std.specs.Prelude.{sum_by}
use Rattle.std.specs.List.{range_with_len}
use Rattle.std.specs.Ordering.{int_eq}
use Rattle.std.proofs.lemmas.Bool.Decides.{Decides-int_eq}
use Rattle.std.proofs.lemmas.List.Sums.{sum_by-cons}
use Rattle.std.proofs.lemmas.List.Sorted.{sum_by-IsPermutation}
use Rattle.hpf_own.specs.Space.{product}
use Rattle.hpf_own.specs.Lists.{IsPerm}
use Rattle.hpf_own.specs.Places.{AreRanks, place_from}
use Rattle.hpf_own.specs.Correspondence.{source}
use Rattle.hpf_sched.specs.declared.step.Move.{Move}
use Rattle.hpf_sched.specs.Places.{place_by}
use Rattle.hpf_sched.proofs.Finding.{StandsIn, found}
use Rattle.hpf_sched.proofs.Crossing.{total}

-- ---- totals
pub total_from : (value : ℕ → ℤ → Move) (f : ℕ → ℕ) (d : ℕ) (index : List ℤ) → ((k j : ℕ) → d + k ≡ j → k < length index → (value j (get_or index k (pos 0))).from ≡ f j) → (total value d index).from ≡ sum_by f (range_with_len d (length index))
total_from value f d [] h = refl
total_from value f d (i ∷ index) h =
    omega (arith, sum_by-cons f d (range_with_len (d + 1) (length index)), h 0 d (omega arith) (omega arith), total_from value f (d + 1) index (λ k j e below. h (suc k) j (omega arith) (omega arith)))

pub total_to : (value : ℕ → ℤ → Move) (f : ℕ → ℕ) (d : ℕ) (index : List ℤ) → ((k j : ℕ) → d + k ≡ j → k < length index → (value j (get_or index k (pos 0))).to ≡ f j) → (total value d index).to ≡ sum_by f (range_with_len d (length index))
total_to value f d [] h = refl
total_to value f d (i ∷ index) h =
    omega (arith, sum_by-cons f d (range_with_len (d + 1) (length index)), h 0 d (omega arith) (omega arith), total_to value f (d + 1) index (λ k j e below. h (suc k) j (omega arith) (omega arith)))

-- ---- places
width_one : (r w : ℕ) → r * (w * 1) ≡ r * w
width_one r w = ap (λ (x : ℕ). r * x) (omega arith)

wider : (r w c p : ℕ) → r * (w * (c * p)) ≡ r * (w * c * p)
wider r w c p = ap (λ (x : ℕ). r * x) (sym (mul_assoc w c p))

pub place_sum : (f : ℕ → ℕ) (d w : ℕ) (counts ranks : List ℕ) → length counts ≡ length ranks → ((k j : ℕ) → d + k ≡ j → k < length ranks → get_or ranks k 0 * (w * product (take k counts)) ≡ f j) → place_from w counts ranks ≡ sum_by f (range_with_len d (length ranks))
place_sum f d w [] [] e h = refl
place_sum f d w [] (r ∷ ranks) e h = absurd (omega arith)
place_sum f d w (c ∷ counts) [] e h = absurd (omega arith)
place_sum f d w (c ∷ counts) (r ∷ ranks) e h =
    let here : r * w ≡ f d = sym (width_one r w) ∙ h 0 d (omega arith) (omega arith) in
    let rest = place_sum f (d + 1) (w * c) counts ranks (omega arith) (λ k j is below. sym (wider (get_or ranks k 0) w c (product (take k counts))) ∙ h (suc k) j (omega arith) (omega arith)) in
    omega (arith, here, rest, sum_by-cons f d (range_with_len (d + 1) (length ranks)))

-- the places of an index's subscripts
abbrev pub ranks_of : List (List ℤ) → List ℤ → List ℕ
ranks_of [] index = []
ranks_of (side ∷ sides) [] = []
ranks_of (side ∷ sides) (i ∷ index) = place_by int_eq side i ∷ ranks_of sides index

pub ranks_are : (sides : List (List ℤ)) (index : List ℤ) → StandsIn sides index → AreRanks sides index (ranks_of sides index)
ranks_are [] [] h = tt
ranks_are [] (i ∷ index) h = absurd h
ranks_are (side ∷ sides) [] h = absurd h
ranks_are (side ∷ sides) (i ∷ index) h = (found int_eq Decides-int_eq side i h.0, ranks_are sides index h.1)

pub length-ranks_of : (sides : List (List ℤ)) (index : List ℤ) → StandsIn sides index → length (ranks_of sides index) ≡ length sides
length-ranks_of [] [] h = refl
length-ranks_of [] (i ∷ index) h = absurd h
length-ranks_of (side ∷ sides) [] h = absurd h
length-ranks_of (side ∷ sides) (i ∷ index) h = ap suc (length-ranks_of sides index h.1)

pub ranks_at : (sides : List (List ℤ)) (index : List ℤ) (k : ℕ) → StandsIn sides index → k < length sides → get_or (ranks_of sides index) k 0 ≡ place_by int_eq (get_or sides k []) (get_or index k (pos 0))
ranks_at [] index k h below = absurd (omega arith)
ranks_at (side ∷ sides) [] k h below = absurd h
ranks_at (side ∷ sides) (i ∷ index) zero h below = refl
ranks_at (side ∷ sides) (i ∷ index) (suc k) h below = ranks_at sides index k h.1 (omega arith)

-- ---- the same sum in another order
by_index : (f h : ℕ → ℕ) (a : ℕ) (xs : List ℕ) → ((k j : ℕ) → a + k ≡ j → k < length xs → f j ≡ h (get_or xs k 0)) → sum_by f (range_with_len a (length xs)) ≡ sum_by h xs
by_index f h a [] e = refl
by_index f h a (x ∷ xs) e =
    omega (arith, sum_by-cons f a (range_with_len (a + 1) (length xs)), sum_by-cons h x xs, e 0 a (omega arith) (omega arith), by_index f h (a + 1) xs (λ k j is below. e (suc k) j (omega arith) (omega arith)))

one_on : (g : ℕ → ℕ) (a n : ℕ) → sum_by (λ e. g (e - 1)) (range_with_len (a + 1) n) ≡ sum_by g (range_with_len a n)
one_on g a zero = refl
one_on g a (suc n) =
    let h : ℕ → ℕ = λ e. g (e - 1) in
    let here : h (a + 1) ≡ g a = ap g (omega arith) in
    omega (arith, sum_by-cons h (a + 1) (range_with_len (a + 1 + 1) n), sum_by-cons g a (range_with_len (a + 1) n), here, one_on g (a + 1) n)

pub permuted_sum : (perm : List ℕ) (g : ℕ → ℕ) → IsPerm perm → sum_by (λ d. g (source perm d)) (range_with_len 0 (length perm)) ≡ sum_by g (range_with_len 0 (length perm))
permuted_sum perm g is =
    let h : ℕ → ℕ = λ e. g (e - 1) in
    by_index (λ (d : ℕ). g (source perm d)) h 0 perm (λ k j e below. ap (λ (x : ℕ). g (get_or perm x 0 - 1)) (omega arith))
    ∙ sum_by-IsPermutation h (range_with_len 1 (length perm)) perm is.permutes
    ∙ one_on g 0 (length perm)
