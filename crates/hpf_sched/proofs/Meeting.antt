-- What goes from a part to a part is a box of subscripts.
use Rattle.std.proofs.Common.{◌≡◌, ℕ, zero, suc, ◌+◌, ◌*◌, ◌<◌, ◌≤◌, ◌==◌, Bool, true, List, [], ◌∷◌, length, map, filter, take, get_or, slice_get, Some, Contains, ◌↔◌, ℤ, pos, ◌+ℤ◌, ◌-ℤ◌, refl, sym, ap, ◌∙◌, subst, arith}
use Rattle.std.specs.Prelude.{sum_by}
use Rattle.std.specs.List.{range_with_len}
use Rattle.std.specs.Ordering.{int_eq}
use Rattle.std.specs.Cmp.Lexicographic.{pointwise}
use Rattle.std.proofs.lemmas.Bool.{and_from, and_parts}
use Rattle.std.proofs.lemmas.Bool.Decides.{Decides-eqb, Decides-like, same_from_decides}
use Rattle.std.proofs.lemmas.Int.{ints}
use Rattle.std.proofs.lemmas.List.{get_or_default, length-map}
use Rattle.hpf_sched.specs.Places.{place_by}
use Rattle.std.proofs.lemmas.List.Elements.{Contains-get_or}
use Rattle.std.proofs.lemmas.List.FromFn.{length-range_with_len, get_or-range_with_len}
use Rattle.std.proofs.lemmas.List.Sorted.{IsPermutation-sym, Contains-permutation}
use Rattle.hpf_num.specs.Runs.{has}
use Rattle.hpf_own.specs.Space.{product, StandOnce}
use Rattle.hpf_own.specs.Lists.{IsPerm}
use Rattle.hpf_own.specs.Mapping.{PlainMapping}
use Rattle.hpf_own.specs.Owners.{sender}
use Rattle.hpf_own.specs.Held.{Part, IsMadeOf}
use Rattle.hpf_own.specs.Places.{AreRanks, place_of}
use Rattle.hpf_own.specs.Correspondence.{bounds_at, source, Corresponds}
use Rattle.hpf_sched.specs.declared.step.Move.{Move}
use Rattle.hpf_sched.specs.Lines.{side_move, box_moves, box_side}
use Rattle.hpf_sched.specs.Transfer.{place_in, source_of}
use Rattle.hpf_sched.proofs.Finding.{same_index_decides, has_is, is_had, place_is, contains_from, StandsIn, chosen_stands, stands_length, stands_at, stands_from, map_filter_agree}
use Rattle.hpf_sched.proofs.Crossing.{boxes, choices_boxes, pass, total, box_moves_are}
use Rattle.hpf_sched.proofs.Adding.{total_from, total_to, place_sum, ranks_of, ranks_are, length-ranks_of, ranks_at, permuted_sum}

-- ---- tests of all subscripts
pass_at : (test : ℕ → ℤ → Bool) (d : ℕ) (index : List ℤ) (k j : ℕ) → pass test d index ≡ true → d + k ≡ j → k < length index → test j (get_or index k (pos 0)) ≡ true
pass_at test d [] k j h e below = absurd (omega arith)
pass_at test d (i ∷ index) zero j h e below =
    ap (λ (x : ℕ). test x i) (omega arith) ∙ (and_parts (test d i) (pass test (d + 1) index) h).0
pass_at test d (i ∷ index) (suc k) j h e below = pass_at test (d + 1) index k j (and_parts (test d i) (pass test (d + 1) index) h).1 (omega arith) (omega arith)

pass_from : (test : ℕ → ℤ → Bool) (d : ℕ) (index : List ℤ) → ((k j : ℕ) → d + k ≡ j → k < length index → test j (get_or index k (pos 0)) ≡ true) → pass test d index ≡ true
pass_from test d [] h = refl
pass_from test d (i ∷ index) h =
    and_from (test d i) (pass test (d + 1) index) (h 0 d (omega arith) (omega arith)) (pass_from test (d + 1) index (λ k j e below. h (suc k) j (omega arith) (omega arith)))

-- ---- a permutation
pub entry_within : (perm : List ℕ) (d : ℕ) → IsPerm perm → d < length perm → (1 ≤ get_or perm d 0) × (source perm d < length perm)
entry_within perm d is below =
    let c = Contains-permutation _ _ (get_or perm d 0) (IsPermutation-sym _ _ is.permutes) (Contains-get_or perm d 0 below) in
    let long = length-range_with_len 1 (length perm) in
    let at = get_or-range_with_len 1 (length perm) c.0 (get_or perm d 0) (omega (arith, long, c.1)) in
    (omega (arith, c.2, at), omega (arith, long, c.1, c.2, at))

source_below : (perm : List ℕ) (d : ℕ) → IsPerm perm → d < length perm → source perm d < length perm
source_below perm d is below = (entry_within perm d is below).1

some_source : (perm : List ℕ) (e : ℕ) → IsPerm perm → e < length perm → (d : ℕ) × (d < length perm) × (source perm d ≡ e)
some_source perm e is below =
    let long = length-range_with_len 1 (length perm) in
    let at : get_or (range_with_len 1 (length perm)) e (e + 1) ≡ e + 1 = get_or-range_with_len 1 (length perm) e (e + 1) below ∙ omega arith in
    let c = Contains-permutation _ _ (e + 1) is.permutes (e, omega arith, at) in
    let there : get_or perm c.0 0 ≡ e + 1 = get_or_default perm c.0 0 (e + 1) c.1 ∙ c.2 in
    (c.0, c.1, omega arith)

-- what is known of both ends
pub record Ends (from to : PlainMapping) (perm : List ℕ) (p : ℕ) (owned held : Part) (os hs : List (List ℤ)) : Type 0 where
  pub perm_is : IsPerm perm
  pub owned_made : IsMadeOf owned os
  pub held_made : IsMadeOf held hs
  pub owned_rank : length os ≡ length perm
  pub held_rank : length hs ≡ length perm
  pub owned_once : StandOnce owned.indices
  pub held_once : StandOnce held.indices
  pub correspond : (i : List ℤ) → Contains held.indices i → Corresponds from.bounds to.bounds perm (source_of from to perm i) i
  pub sent : (i : List ℤ) → Contains held.indices i → (sender from (source_of from to perm i) ≡ p) ↔ Contains owned.indices (source_of from to perm i)
  pub place : (part : Part) (sides : List (List ℤ)) (index : List ℤ) (ranks : List ℕ) → IsMadeOf part sides
      → AreRanks sides index ranks → slice_get part.indices (place_of (map length sides) ranks) ≡ Some index

module _ (from to : PlainMapping) (perm : List ℕ) (p : ℕ) (owned held : Part) (os hs : List (List ℤ)) where
  abbrev shift : ℕ → ℤ
  shift d = (bounds_at from.bounds (source perm d)).low -ℤ (bounds_at to.bounds d).low

  abbrev test : ℕ → ℤ → Bool
  test d x = has (get_or os (source perm d) []) (x +ℤ shift d)

  abbrev value : ℕ → ℤ → Move
  value d x = side_move (get_or os (source perm d) []) (get_or hs d []) (shift d) (product (take (source perm d) (map length os))) (product (take d (map length hs))) x

  abbrev src : List ℤ → List ℤ
  src i = source_of from to perm i

  moved_back : (a b c d : ℤ) → (a -ℤ b) ≡ (c -ℤ d) → a ≡ c +ℤ (b -ℤ d)
  moved_back a b c d e = omega (arith, ints)

  -- the subscripts of an element and of its source
  subscripts : (i : List ℤ) (d : ℕ) → Corresponds from.bounds to.bounds perm (src i) i → d < length perm → get_or (src i) (source perm d) (pos 0) ≡ get_or i d (pos 0) +ℤ shift d
  subscripts i d h below = moved_back _ _ _ _ (h.offsets d below)

  module _ (ends : Ends from to perm p owned held os hs) (i : List ℤ) (here : Contains held.indices i) where
    corr : Corresponds from.bounds to.bounds perm (src i) i
    corr = ends.correspond i here

    stands : StandsIn hs i
    stands = chosen_stands hs i (subst (λ (xs : List (List ℤ)). Contains xs i) ends.held_made.every here)

    owned_stands : Contains owned.indices (src i) → StandsIn os (src i)
    owned_stands c = chosen_stands os (src i) (subst (λ (xs : List (List ℤ)). Contains xs (src i)) ends.owned_made.every c)

    passing : Contains owned.indices (src i) → pass test 0 i ≡ true
    passing c = pass_from test 0 i (λ k j e below.
        let same : k ≡ j = omega arith in
        let within : j < length perm = omega (arith, corr.receiving) in
        let item = stands_at os (src i) (source perm j) (owned_stands c) (omega (arith, source_below perm j ends.perm_is within, ends.owned_rank)) in
        let is : get_or (src i) (source perm j) (pos 0) ≡ get_or i k (pos 0) +ℤ shift j = subscripts i j corr within ∙ ap (λ (x : ℕ). get_or i x (pos 0) +ℤ shift j) (sym same) in
        has_is (get_or os (source perm j) []) (get_or i k (pos 0) +ℤ shift j) (subst (Contains (get_or os (source perm j) [])) is item))

    item_at : pass test 0 i ≡ true → (e : ℕ) → e < length os → Contains (get_or os e []) (get_or (src i) e (pos 0))
    item_at h e below =
        let s = some_source perm e ends.perm_is (omega (arith, ends.owned_rank)) in
        let passes = pass_at test 0 i s.0 s.0 h (omega arith) (omega (arith, corr.receiving, s.1)) in
        let item = is_had (get_or os (source perm s.0) []) (get_or i s.0 (pos 0) +ℤ shift s.0) passes in
        let there : Contains (get_or os (source perm s.0) []) (get_or (src i) (source perm s.0) (pos 0)) =
        subst (Contains (get_or os (source perm s.0) [])) (sym (subscripts i s.0 corr s.1)) item in
        subst (λ (x : ℕ). Contains (get_or os x []) (get_or (src i) x (pos 0))) s.2 there

    passed : pass test 0 i ≡ true → Contains owned.indices (src i)
    passed h =
        let s = stands_from os (src i) (omega (arith, corr.before, ends.owned_rank)) (item_at h) in
        contains_from owned.indices _ (src i) (ends.place owned os (src i) (ranks_of os (src i)) ends.owned_made (ranks_are os (src i) s))

    same_test : pass test 0 i ≡ (sender from (src i) == p)
    same_test =
        same_from_decides {P = Contains owned.indices (src i)} (pass test 0 i) (sender from (src i) == p) (passed, passing)
        (Decides-like (sender from (src i) == p) (ends.sent i here).0 (ends.sent i here).1 (Decides-eqb (sender from (src i)) p))

    one_times : (r x : ℕ) → r * (1 * x) ≡ r * x
    one_times r x = ap (λ (y : ℕ). r * y) (omega arith)

    to_is : (total value 0 i).to ≡ place_in held.indices i
    to_is =
        let ranks = ranks_of hs i in
        let counts = map length hs in
        let f : ℕ → ℕ = λ d. get_or ranks d 0 * product (take d counts) in
        let sum = total_to value f 0 i (λ k j e below.
        let same : k ≡ j = omega arith in
        let r = ranks_at hs i j stands (omega (arith, stands_length hs i stands)) in
        ap (λ (x : ℕ). place_by int_eq (get_or hs j []) (get_or i x (pos 0)) * product (take j counts)) same
        ∙ ap (λ (x : ℕ). x * product (take j counts)) (sym r)) in
        let place = place_sum f 0 1 counts ranks (length-map hs length ∙ sym (length-ranks_of hs i stands)) (λ k j e below.
        one_times (get_or ranks k 0) (product (take k counts)) ∙ ap f (omega arith)) in
        let at = ends.place held hs i ranks ends.held_made (ranks_are hs i stands) in
        sum ∙ ap (λ (n : ℕ). sum_by f (range_with_len 0 n)) (stands_length hs i stands ∙ sym (length-ranks_of hs i stands)) ∙ sym place
        ∙ sym (place_is (pointwise int_eq) same_index_decides held.indices _ i ends.held_once at)

    from_is : Contains owned.indices (src i) → (total value 0 i).from ≡ place_in owned.indices (src i)
    from_is c =
        let s = owned_stands c in
        let ranks = ranks_of os (src i) in
        let counts = map length os in
        let g : ℕ → ℕ = λ e. get_or ranks e 0 * product (take e counts) in
        let sum = total_from value (λ d. g (source perm d)) 0 i (λ k j e below.
        let same : k ≡ j = omega arith in
        let within : j < length perm = omega (arith, corr.receiving) in
        let r = ranks_at os (src i) (source perm j) s (omega (arith, source_below perm j ends.perm_is within, ends.owned_rank)) in
        let is : get_or i k (pos 0) +ℤ shift j ≡ get_or (src i) (source perm j) (pos 0) = ap (λ (x : ℕ). get_or i x (pos 0) +ℤ shift j) same ∙ sym (subscripts i j corr within) in
        ap (λ (x : ℤ). place_by int_eq (get_or os (source perm j) []) x * product (take (source perm j) counts)) is
        ∙ ap (λ (x : ℕ). x * product (take (source perm j) counts)) (sym r)) in
        let place = place_sum g 0 1 counts ranks (length-map os length ∙ sym (length-ranks_of os (src i) s)) (λ k j e below.
        one_times (get_or ranks k 0) (product (take k counts)) ∙ ap g (omega arith)) in
        let at = ends.place owned os (src i) ranks ends.owned_made (ranks_are os (src i) s) in
        sum ∙ ap (λ (n : ℕ). sum_by (λ d. g (source perm d)) (range_with_len 0 n)) corr.receiving ∙ permuted_sum perm g ends.perm_is
        ∙ ap (λ (n : ℕ). sum_by g (range_with_len 0 n)) (sym ends.owned_rank ∙ sym (length-ranks_of os (src i) s)) ∙ sym place
        ∙ sym (place_is (pointwise int_eq) same_index_decides owned.indices _ (src i) ends.owned_once at)

    same_value : (sender from (src i) == p) ≡ true → total value 0 i ≡ (let m : Move = record { from = place_in owned.indices (src i); to = place_in held.indices i } in m)
    same_value h =
        let c = (ends.sent i here).0 ((Decides-eqb (sender from (src i)) p).0 h) in
        ap (λ (f : ℕ). let m : Move = record { from = f; to = (total value 0 i).to } in m) (from_is c)
        ∙ ap (λ (t : ℕ). let m : Move = record { from = place_in owned.indices (src i); to = t } in m) to_is

  -- the box has exactly what goes
  pub box_is : Ends from to perm p owned held os hs → box_moves (box_side from.bounds to.bounds perm os hs) 0 (length perm)
      ≡ map (λ i. let m : Move = record { from = place_in owned.indices (src i); to = place_in held.indices i } in m) (filter (λ i. sender from (src i) == p) held.indices)
  box_is ends =
      let box : boxes (λ j. get_or hs j []) 0 (length perm) ≡ held.indices = sym (choices_boxes hs 0 (length perm) (omega (arith, ends.held_rank))) ∙ sym ends.held_made.every in
      box_moves_are test value (λ j. get_or hs j []) 0 (length perm)
      ∙ ap (λ (xs : List (List ℤ)). map (total value 0) (filter (pass test 0) xs)) box
      ∙ map_filter_agree (total value 0) (λ i. let m : Move = record { from = place_in owned.indices (src i); to = place_in held.indices i } in m) (pass test 0) (λ i. sender from (src i) == p) held.indices
      (λ i here. (same_test ends i here, same_value ends i here))
