-- How far places rise, and that it is not far.
use Rattle.std.proofs.Common.{◌≡◌, ℕ, zero, suc, ◌+◌, ◌*◌, ◌^◌, ◌<◌, ◌≤◌, List, [], ◌∷◌, length, map, filter, take, get_or, All, inl, inr, ℤ, ◌+ℤ◌, mul_comm, refl, sym, ap, ◌∙◌, arith, length-append}
use Rattle.std.specs.List.{flat_map}
use Rattle.std.specs.Ordering.{int_eq}
use Rattle.std.proofs.lemmas.List.{length-map, get_or-map}
use Rattle.std.proofs.lemmas.List.Elements.{All-head, All-tail, All-append, All-map, All-nil}
use Rattle.std.proofs.lemmas.Bool.{cases_Bool}
use Rattle.std.proofs.Math.Nat.{mul-le-mul_left}
use Rattle.hpf_num.specs.Runs.{has}
use Rattle.hpf_own.specs.Space.{choices, product}
use Rattle.hpf_own.specs.Held.{Part, IsMadeOf}
use Rattle.hpf_sched.specs.declared.step.Move.{Move}
use Rattle.hpf_sched.specs.Places.{place_by}
use Rattle.hpf_sched.specs.Lines.{plus, crossed, side_move, side_moves, IsSmall}
use Rattle.hpf_own.specs.Limits.{element_limit}

-- ---- how many choices
length-flat_map-even : {A B : Type 0} (f : A → List B) (n : ℕ) → ((x : A) → length (f x) ≡ n) → (xs : List A) → length (flat_map f xs) ≡ length xs * n
length-flat_map-even f n h [] = omega arith
length-flat_map-even f n h (x ∷ xs) =
    omega (arith, length-append (f x) (flat_map f xs), h x, length-flat_map-even f n h xs)

length-choices : (sides : List (List ℤ)) → length (choices sides) ≡ product (map length sides)
length-choices [] = refl
length-choices (side ∷ sides) =
    let put : List ℤ → List (List ℤ) = λ chosen. map (λ i. i ∷ chosen) side in
    omega (arith, length-flat_map-even put (length side) (λ (chosen : List ℤ). length-map side (λ (i : ℤ). i ∷ chosen)) (choices sides), length-choices sides, mul_comm (length (choices sides)) (length side), ap (λ (n : ℕ). length side * n) (length-choices sides))

none_in_front : (k : ℕ) (sides : List (List ℤ)) → All (λ xs. length xs ≡ 0) sides → product (take k (map length sides)) ≤ 1
none_in_front zero sides h = omega arith
none_in_front (suc k) [] h = omega arith
none_in_front (suc k) (side ∷ sides) h =
    let z : length side ≡ 0 = All-head (λ (xs : List ℤ). length xs ≡ 0) side sides h in
    rw z (omega arith)

counts_some : (sides : List (List ℤ)) → All (λ xs. 1 ≤ length xs) sides → All (λ n. 1 ≤ n) (map length sides)
counts_some sides h = All-map (λ (n : ℕ). 1 ≤ n) length sides h

-- a front of the counts comes to no more than the elements of a part
pub stride_few : (part : Part) (sides : List (List ℤ)) (k : ℕ) → ((sizes : List ℕ) (k : ℕ) → All (λ size. 1 ≤ size) sizes → product (take k sizes) ≤ product sizes)
    → IsMadeOf part sides → length part.indices ≤ element_limit → product (take k (map length sides)) ≤ element_limit
stride_few part sides k front made few =
    elim made.all_or_none [
      | inl some ↦ omega (arith, front (map length sides) k (counts_some sides some), length-choices sides, ap (λ (xs : List (List ℤ)). length xs) made.every)
      | inr none ↦ omega (arith, none_in_front k sides none)
    ]

-- nor does a list of subscripts
pub side_few : (part : Part) (sides : List (List ℤ)) (k : ℕ) (side : List ℤ) → ((sizes : List ℕ) (k : ℕ) → All (λ size. 1 ≤ size) sizes → k < length sizes → get_or sizes k 0 ≤ product sizes)
    → IsMadeOf part sides → length part.indices ≤ element_limit → k < length sides → get_or sides k [] ≡ side → length side ≤ element_limit
side_few part sides k side one made few below is =
    let count : get_or (map length sides) k 0 ≡ length side = get_or-map length sides k [] 0 below ∙ ap length is in
    elim made.all_or_none [
      | inl some ↦ omega (arith, count, one (map length sides) k (counts_some sides some) (omega (arith, length-map sides length)), length-choices sides, ap (λ (xs : List (List ℤ)). length xs) made.every)
      | inr none ↦ omega (arith, none k [] below, ap length is)
    ]

-- the next stride
pub stride_more : (sides : List (List ℤ)) (k n stride : ℕ) (side : List ℤ) → ((sizes : List ℕ) (k : ℕ) → k < length sizes → product (take (k + 1) sizes) ≡ product (take k sizes) * get_or sizes k 0)
    → k < length sides → get_or sides k [] ≡ side → n ≡ length side → stride ≡ product (take k (map length sides)) → stride * n ≡ product (take (k + 1) (map length sides))
stride_more sides k n stride side more below is size so_far =
    let count : get_or (map length sides) k 0 ≡ n = get_or-map length sides k [] 0 below ∙ ap length is ∙ sym size in
    ap (λ (x : ℕ). x * n) so_far ∙ ap (λ (x : ℕ). product (take k (map length sides)) * x) (sym count)
    ∙ sym (more (map length sides) k (omega (arith, length-map sides length)))

-- ---- small moves
pub place_within : (xs : List ℤ) (x : ℤ) → place_by int_eq xs x ≤ length xs
place_within [] x = omega arith
place_within (y ∷ xs) x =
    let rest = place_within xs x in
    elim (cases_Bool (int_eq y x)) [ inl here ↦ rw here (omega arith) | inr other ↦ rw other (omega arith) ]

small_product : (k n : ℕ) → k ≤ element_limit → n ≤ element_limit → k * n ≤ 1 * 2 ^ 48
small_product k n a b =
    let c : k * n ≤ k * element_limit = mul-le-mul_left k b in
    omega arith

pub side_small : (owned held : List ℤ) (shift : ℤ) (from to : ℕ) → length owned ≤ element_limit → length held ≤ element_limit → from ≤ element_limit → to ≤ element_limit → All (IsSmall 1) (side_moves owned held shift from to)
side_small owned held shift from to o h f t =
    All-map (IsSmall 1) (side_move owned held shift from to) (filter (λ x. has owned (x +ℤ shift)) held) (λ k d below.
    let x = get_or (filter (λ x. has owned (x +ℤ shift)) held) k d in
    record {
      from = small_product (place_by int_eq owned (x +ℤ shift)) from (omega (arith, place_within owned (x +ℤ shift))) f;
      to = small_product (place_by int_eq held x) to (omega (arith, place_within held x)) t;
    })

small_sum : (n : ℕ) (line m : Move) → IsSmall n line → IsSmall 1 m → IsSmall (n + 1) (plus line m)
small_sum n line m a b =
    let f = a.from in let g = b.from in let h = a.to in let k = b.to in
    record { from = omega arith; to = omega arith }

pub crossed_small : (n : ℕ) (lines side : List Move) → All (IsSmall n) lines → All (IsSmall 1) side → All (IsSmall (n + 1)) (crossed lines side)
crossed_small n [] side h s = All-nil (IsSmall (n + 1))
crossed_small n (line ∷ lines) side h s =
    All-append (IsSmall (n + 1)) (map (plus line) side) (crossed lines side)
    (All-map (IsSmall (n + 1)) (plus line) side (λ k d below. small_sum n line (get_or side k d) (All-head (IsSmall n) line lines h) (s k d below)))
    (crossed_small n lines side (All-tail (IsSmall n) line lines h) s)

pub small_more : (n m : ℕ) (moves : List Move) → n ≤ m → All (IsSmall n) moves → All (IsSmall m) moves
small_more n m moves le h = λ k d below. let s = h k d below in let f = s.from in let t = s.to in record { from = omega arith; to = omega arith }
