-- Parts that are made of lists, one for each dimension.
use Rattle.std.proofs.Common.{◌≡◌, ℕ, zero, suc, ◌+◌, ◌-◌, ◌*◌, ◌/◌, ◌%◌, ◌<◌, ◌≤◌, List, [], ◌∷◌, ◌++◌, length, get_or, drop, take, All, Contains, inl, inr, refl, sym, ap, ◌∙◌, arith, subst, mul_comm, slice_get, Some, replicate}
use Rattle.std.proofs.lemmas.Nat.{mul-add-lt}
use Rattle.std.proofs.Math.Nat.{mul-le-mul_left}
use Rattle.std.proofs.lemmas.List.{drop_more, drop_all, nil_from_length, append_assoc, get_or_default}
use Rattle.std.proofs.lemmas.Option.{slice_get-get_or, slice_get_within, get_or_from_slice_get}
use Rattle.std.proofs.lemmas.List.Elements.{All-head, All-tail, All-nil, All-cons}
use Rattle.std.proofs.lemmas.Bool.{cases_lt}
use Rattle.hpf_own.specs.Space.{choices}
use Rattle.hpf_own.specs.Held.{AreAllOrNone}
use Rattle.hpf_own.proofs.Choices.{length-choices, get_or-choices}
use Rattle.hpf_own.proofs.Order.{Chooses, choices_only, split}
use Rattle.hpf_own.specs.Limits.{element_limit}

pub length_more : {A : Type 0} (items : List A) (rest : List (List A)) → length (choices (items ∷ rest)) ≡ length items * length (choices rest)
length_more items rest = length-choices (items ∷ rest) ∙ ap (λ (n : ℕ). length items * n) (sym (length-choices rest))

-- the lists from one place on
pub from_place : {A : Type 0} (lists : List (List A)) (d : ℕ) → d < length lists → drop d lists ≡ get_or lists d [] ∷ drop (d + 1) lists
from_place lists d below = drop_more lists d [] below

from_more : {A : Type 0} (lists : List (List A)) (d : ℕ) → d < length lists → choices (drop d lists) ≡ choices (get_or lists d [] ∷ drop (d + 1) lists)
from_more lists d below = ap choices (from_place lists d below)

pub length_from : {A : Type 0} (lists : List (List A)) (d : ℕ) → d < length lists → length (choices (drop d lists)) ≡ length (get_or lists d []) * length (choices (drop (d + 1) lists))
length_from {A} lists d below = ap (λ (xs : List (List A)). length xs) (from_more lists d below) ∙ length_more (get_or lists d []) (drop (d + 1) lists)

-- no more choices of some lists than of all
some_fewer : {A : Type 0} (lists : List (List A)) (d n : ℕ) → All (λ xs. 1 ≤ length xs) lists → length (choices lists) ≤ n → 1 ≤ n → length (choices (drop d lists)) ≤ n
some_fewer lists zero n some few least = few
some_fewer [] (suc d) n some few least = least
some_fewer {A} (items ∷ rest) (suc d) n some few least =
    let here = All-head (λ (xs : List A). 1 ≤ length xs) items rest some in
    let fewer : length (choices rest) ≤ n = omega (arith, length_more items rest, mul-le-mul_left (length (choices rest)) here) in
    some_fewer rest d n (All-tail (λ (xs : List A). 1 ≤ length xs) items rest some) fewer least

none_fewer : {A : Type 0} (lists : List (List A)) (d n : ℕ) → All (λ xs. length xs ≡ 0) lists → length (choices lists) ≤ n → 1 ≤ n → length (choices (drop d lists)) ≤ n
none_fewer lists zero n none few least = few
none_fewer [] (suc d) n none few least = least
none_fewer {A} (items ∷ []) (suc d) n none few least = rw (drop_all d (let none : List (List A) = [] in none) (omega arith)) least
none_fewer {A} (items ∷ next ∷ rest) (suc d) n none few least =
    let tail = All-tail (λ (xs : List A). length xs ≡ 0) items (next ∷ rest) none in
    let empty : length next ≡ 0 = All-head (λ (xs : List A). length xs ≡ 0) next rest tail in
    let nothing : length (choices (next ∷ rest)) ≡ 0 = length_more next rest ∙ rw empty (omega arith) in
    none_fewer (next ∷ rest) d n tail (omega arith) least

pub fewer : {A : Type 0} (lists : List (List A)) (d : ℕ) → AreAllOrNone lists → length (choices lists) ≤ element_limit → length (choices (drop d lists)) ≤ element_limit
fewer lists d all few =
    elim all [
      | inl some ↦ some_fewer lists d element_limit some few (omega arith)
      | inr none ↦ none_fewer lists d element_limit none few (omega arith)
    ]

-- the place of a choice, one list more in front
pub record IsPlaced {A : Type 0} (lists : List (List A)) (d place : ℕ) (chosen : List A) : Type 0 where
  pub below : place < length (choices (drop d lists))
  pub there : get_or (choices (drop d lists)) place [] ≡ chosen

pub placed_more : {A : Type 0} (lists : List (List A)) (d place j : ℕ) (x : A) (chosen : List A) → d < length lists → IsPlaced lists (d + 1) place chosen → j < length (get_or lists d []) → get_or (get_or lists d []) j x ≡ x → IsPlaced lists d (place * length (get_or lists d []) + j) (x ∷ chosen)
placed_more {A} lists d place j x chosen within h below is =
    let items = get_or lists d [] in
    let rest = drop (d + 1) lists in
    record {
      below = omega (arith, length_from lists d within, mul-add-lt place (length items) j (length (choices rest)) h.below below);
      there = ap (λ (xs : List (List A)). get_or xs (place * length items + j) []) (from_more lists d within)
          ∙ get_or-choices items rest place j [] x h.below below
          ∙ ap (λ (y : A). y ∷ get_or (choices rest) place []) is
          ∙ ap (λ (ys : List A). x ∷ ys) h.there;
    }

pub placed_none : {A : Type 0} (lists : List (List A)) → IsPlaced lists (length lists) 0 []
placed_none {A} lists =
    let end : drop (length lists) lists ≡ [] = drop_all (length lists) lists (omega arith) in
    record { below = rw end (omega arith); there = rw end refl }

-- a choice has an item of each list
pub chosen_at : {A : Type 0} (lists : List (List A)) (xs : List A) (d : ℕ) (e : A) → Chooses lists xs → d < length lists → Contains (get_or lists d []) (get_or xs d e)
chosen_at [] xs d e h below = absurd (omega arith)
chosen_at (items ∷ rest) [] d e h below = absurd h
chosen_at (items ∷ rest) (x ∷ xs) zero e h below = h.0
chosen_at (items ∷ rest) (x ∷ xs) (suc d) e h below = chosen_at rest xs d e h.1 (omega arith)

some_item : (n m k : ℕ) → k < n * m → 1 ≤ n
some_item zero m k h = absurd (omega arith)
some_item (suc n) m k h = omega arith

-- the choice at a place, one list after another
pub record IsWritten {A : Type 0} (lists : List (List A)) (k d rest : ℕ) (into : List A) : Type 0 where
  pub below : rest < length (choices (drop d lists))
  pub there : get_or (choices lists) k [] ≡ take d into ++ get_or (choices (drop d lists)) rest []

pub written_some : {A : Type 0} (lists : List (List A)) (k d rest : ℕ) (into : List A) → d < length lists → IsWritten lists k d rest into → 1 ≤ length (get_or lists d [])
written_some lists k d rest into within h =
    some_item (length (get_or lists d [])) (length (choices (drop (d + 1) lists))) rest (omega (arith, h.below, length_from lists d within))

pub written_more : {A : Type 0} (lists : List (List A)) (k d rest : ℕ) (into after : List A) (x : A) → d < length lists → IsWritten lists k d rest into → get_or (get_or lists d []) (rest % length (get_or lists d [])) x ≡ x → take (d + 1) after ≡ take d into ++ x ∷ [] → IsWritten lists k (d + 1) (rest / length (get_or lists d [])) after
written_more {A} lists k d rest into after x within h is more =
    let items = get_or lists d [] in
    let others = drop (d + 1) lists in
    let n = length items in
    let s = split n (length (choices others)) rest (omega (arith, h.below, length_from lists d within)) in
    let at : get_or (choices (drop d lists)) rest [] ≡ x ∷ get_or (choices others) (rest / n) [] =
    ap (λ (xs : List (List A)). get_or xs rest []) (from_more lists d within)
    ∙ ap (λ (j : ℕ). get_or (choices (items ∷ others)) j []) (sym s.whole)
    ∙ get_or-choices items others (rest / n) (rest % n) [] x s.chosen s.item
    ∙ ap (λ (y : A). y ∷ get_or (choices others) (rest / n) []) is in
    record {
      below = s.chosen;
      there = h.there ∙ ap (λ (ys : List A). take d into ++ ys) at ∙ sym (append_assoc (take d into) (x ∷ []) (get_or (choices others) (rest / n) []))
          ∙ ap (λ (ys : List A). ys ++ get_or (choices others) (rest / n) []) (sym more);
    }

cc_product : (a n b m : ℕ) → a ≡ n → b ≡ m → a * b ≡ n * m
cc_product a n b m e f = cc

-- ---- from the last dimension down
-- the list before a place
pub record IsBefore {A : Type 0} (lists : List (List A)) (d : ℕ) (side : List A) : Type 0 where
  pub within : d - 1 < length lists
  pub next : d - 1 + 1 ≡ d
  pub is : get_or lists (d - 1) [] ≡ side

pub before : {A : Type 0} (lists : List (List A)) (d : ℕ) (side : List A) → 0 < d → d ≤ length lists → side ≡ get_or lists (d - 1) side → IsBefore lists d side
before lists d side some most is =
    record { within = omega arith; next = omega arith; is = get_or_default lists (d - 1) [] side (omega arith) ∙ sym is }

pub counted : {A : Type 0} (lists : List (List A)) (d count n : ℕ) (side : List A) → IsBefore lists d side → count ≡ length (choices (drop d lists)) → n ≡ length side → count * n ≡ length (choices (drop (d - 1) lists))
counted {A} lists d count n side b is size =
    let from = length_from lists (d - 1) b.within in
    let e : length (choices (drop (d - 1) lists)) ≡ n * count = from ∙ cc_product (length (get_or lists (d - 1) [])) n (length (choices (drop (d - 1 + 1) lists))) count (ap (λ (xs : List A). length xs) b.is ∙ sym size) (ap (λ (k : ℕ). length (choices (drop k lists))) b.next ∙ sym is) in
    mul_comm count n ∙ sym e

pub placed_before : {A : Type 0} (lists : List (List A)) (d place n j : ℕ) (side : List A) (x : A) (chosen : List A) → IsBefore lists d side → IsPlaced lists d place chosen → n ≡ length side → slice_get side j ≡ Some x → IsPlaced lists (d - 1) (place * n + j) (x ∷ chosen)
placed_before {A} lists d place n j side x chosen b h size at =
    let more : IsPlaced lists (d - 1 + 1) place chosen = subst (λ (k : ℕ). IsPlaced lists k place chosen) (sym b.next) h in
    let below : j < length (get_or lists (d - 1) []) = rw b.is (slice_get_within side j x at) in
    let there : get_or (get_or lists (d - 1) []) j x ≡ x = rw b.is (get_or_from_slice_get side j x x at) in
    let whole = placed_more lists (d - 1) place j x chosen b.within more below there in
    subst (λ (m : ℕ). IsPlaced lists (d - 1) (place * m + j) (x ∷ chosen)) (ap (λ (xs : List A). length xs) b.is ∙ sym size) whole

pub placed_fits : {A : Type 0} (lists : List (List A)) (d place : ℕ) (chosen : List A) → AreAllOrNone lists → length (choices lists) ≤ element_limit → IsPlaced lists d place chosen → place < element_limit
placed_fits lists d place chosen all few h = let f = fewer lists d all few in let b = h.below in omega arith

-- the choice at a place is the whole index
pub placed_whole : {A : Type 0} (lists : List (List A)) (place : ℕ) (index : List A) → IsPlaced lists 0 place index → slice_get (choices lists) place ≡ Some index
placed_whole {A} lists place index h = slice_get-get_or (choices lists) place [] h.below ∙ ap (λ (xs : List A). Some xs) h.there

-- an index with an item that isn't in the list of its dimension is no choice
pub not_chosen : {A : Type 0} (lists : List (List A)) (d : ℕ) (side : List A) (index : List A) (x : A) → IsBefore lists d side → x ≡ get_or index (d - 1) x → (Contains side x → ⊥) → Contains (choices lists) index → ⊥
not_chosen {A} lists d side index x b is out h =
    let chosen = subst (Chooses lists) h.2 (choices_only lists h.0 index x h.1) in
    let here = chosen_at lists index (d - 1) x chosen b.within in
    out (subst (λ (xs : List A). Contains xs x) b.is (subst (Contains (get_or lists (d - 1) [])) (sym is) here))

pub product_fits : {A : Type 0} (lists : List (List A)) (d place n : ℕ) (side chosen : List A) → AreAllOrNone lists → length (choices lists) ≤ element_limit → IsBefore lists d side → IsPlaced lists d place chosen → n ≡ length side → place * n ≤ element_limit
product_fits lists d place n side chosen all few b h size =
    let e = counted lists d (length (choices (drop d lists))) n side b refl size in
    let f = fewer lists (d - 1) all few in
    let below : place ≤ length (choices (drop d lists)) = omega (arith, h.below) in
    omega (arith, mul-le-mul_left n below, mul_comm n place, mul_comm n (length (choices (drop d lists))))

-- ---- lists of which one is empty
pub no_choice : {A : Type 0} (lists : List (List A)) → (All (λ xs. 1 ≤ length xs) lists → ⊥) → choices lists ≡ []
no_choice {A} [] h = absurd (h (All-nil (λ (xs : List A). 1 ≤ length xs)))
no_choice {A} (items ∷ rest) h =
    nil_from_length (choices (items ∷ rest))
    (elim (cases_lt 0 (length items)) [
      | inl some ↦
          let none = no_choice rest (λ all. h (All-cons (λ (xs : List A). 1 ≤ length xs) items rest some all)) in
          length_more items rest ∙ rw none (omega arith)
      | inr empty ↦ let zero : length items ≡ 0 = omega arith in length_more items rest ∙ rw zero (omega arith)
    ])

pub empty_choice : {A : Type 0} (n : ℕ) → 1 ≤ n → (let none : List A = [] in choices (replicate n none)) ≡ []
empty_choice {A} zero h = absurd (omega arith)
empty_choice {A} (suc n) h =
    let none : List A = [] in
    nil_from_length (choices (replicate (suc n) none)) (length_more none (replicate n none) ∙ (let e : length none * length (choices (replicate n none)) ≡ 0 = omega arith in e))
