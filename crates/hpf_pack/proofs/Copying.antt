-- Values copied into the middle of a list.
use Rattle.std.proofs.Common.{◌≡◌, ℕ, zero, suc, ◌+◌, ◌-◌, ◌<◌, ◌≤◌, List, [], ◌∷◌, ◌++◌, length, take, drop, get_or, slice_get, Option, Some, ℤ, pos, refl, sym, ap, ◌∙◌, arith, inl, inr, length-append, append_assoc}
use Rattle.std.proofs.lemmas.Bool.{cases_lt}
use Rattle.std.proofs.lemmas.List.{take_more, map-append, get_or-take, get_or-drop, length-take-le, length-drop, length-map, get_or-map, get_or_default, same_lists, take_at, append-nil}
use Rattle.std.proofs.lemmas.List.Concat.{flat_map-append}
use Rattle.std.proofs.lemmas.List.FromFn.{get_or-map-range_with_len}
use Rattle.std.proofs.lemmas.Option.{get_or_from_slice_get, slice_get_within}
use Rattle.hpf_sched.specs.declared.step.Move.{Move}
use Rattle.hpf_sched.specs.declared.step.Step.{Step}
use Rattle.hpf_sched.specs.Moves.{moves_of, moves, AreRuns, EntersInOrder, runs}
use Rattle.hpf_pack.specs.Packing.{packed, copied}
use Rattle.hpf_pack.proofs.Stepping.{move_at, length-moves_of, at_step}

-- ---- items of lists
left : (xs ys : List ℤ) (k : ℕ) → k < length xs → slice_get (xs ++ ys) k ≡ slice_get xs k
left [] ys k below = absurd (omega arith)
left (x ∷ xs) ys zero below = refl
left (x ∷ xs) ys (suc k) below = left xs ys k (omega arith)

right : (xs ys : List ℤ) (k n : ℕ) → length xs + k ≡ n → slice_get (xs ++ ys) n ≡ slice_get ys k
right [] ys k n e = ap (λ (m : ℕ). slice_get ys m) (omega arith)
right (x ∷ xs) ys k zero e = absurd (omega arith)
right (x ∷ xs) ys k (suc n) e = right xs ys k n (omega arith)

in_front : (n : ℕ) (xs : List ℤ) (k : ℕ) → k < n → slice_get (take n xs) k ≡ slice_get xs k
in_front zero xs k below = absurd (omega arith)
in_front (suc n) [] k below = refl
in_front (suc n) (x ∷ xs) zero below = refl
in_front (suc n) (x ∷ xs) (suc k) below = in_front n xs k (omega arith)

behind : (n : ℕ) (xs : List ℤ) (k m : ℕ) → n + k ≡ m → slice_get (drop n xs) k ≡ slice_get xs m
behind zero xs k m e = ap (λ (j : ℕ). slice_get xs j) (omega arith)
behind (suc n) [] k m e = refl
behind (suc n) (x ∷ xs) k zero e = absurd (omega arith)
behind (suc n) (x ∷ xs) k (suc m) e = behind n xs k m (omega arith)

-- ---- copied values
pub copied_below : (from : List ℤ) (first : ℕ) (into : List ℤ) (at count place : ℕ) → at + count ≤ length into → place < at → slice_get (copied from first into at count) place ≡ slice_get into place
copied_below from first into at count place fits less =
    left (take at into) (take count (drop first from) ++ drop (at + count) into) place (omega (arith, length-take-le at into (omega arith))) ∙ in_front at into place less

mid_length : (from : List ℤ) (first count : ℕ) → first + count ≤ length from → length (take count (drop first from)) ≡ count
mid_length from first count fits = length-take-le count (drop first from) (omega (arith, length-drop first from))

pub copied_inside : (from : List ℤ) (first : ℕ) (into : List ℤ) (at count j place there : ℕ) → first + count ≤ length from → at + count ≤ length into → j < count → at + j ≡ place → first + j ≡ there
    → slice_get (copied from first into at count) place ≡ slice_get from there
copied_inside from first into at count j place there whole fits less e d =
    right (take at into) (take count (drop first from) ++ drop (at + count) into) j place (omega (arith, length-take-le at into (omega arith)))
    ∙ left (take count (drop first from)) (drop (at + count) into) j (omega (arith, mid_length from first count whole))
    ∙ in_front count (drop first from) j less ∙ behind first from j there d

pub copied_above : (from : List ℤ) (first : ℕ) (into : List ℤ) (at count place : ℕ) → first + count ≤ length from → at + count ≤ length into → at + count ≤ place → slice_get (copied from first into at count) place ≡ slice_get into place
copied_above from first into at count place whole fits more =
    right (take at into) (take count (drop first from) ++ drop (at + count) into) (place - at) place (omega (arith, length-take-le at into (omega arith)))
    ∙ right (take count (drop first from)) (drop (at + count) into) (place - at - count) (place - at) (omega (arith, mid_length from first count whole))
    ∙ behind (at + count) into (place - at - count) place (omega arith)

-- ---- a step packed
step_packed : (step : Step) (from : List ℤ) → step.from + step.length ≤ length from → take step.length (drop step.from from) ≡ packed (moves_of step) from
step_packed step from fits =
    let n = step.length in
    let g : Move → ℤ = λ move. get_or from move.from (pos 0) in
    same_lists (take n (drop step.from from)) (packed (moves_of step) from) (mid_length from step.from n fits ∙ sym (length-map (moves_of step) g ∙ length-moves_of step)) (λ k d below.
    let less : k < n = omega (arith, mid_length from step.from n fits) in
    get_or-take n (drop step.from from) k d less ∙ get_or-drop step.from from k d ∙ get_or_default from (step.from + k) d (pos 0) (omega arith)
    ∙ ap g (sym (get_or-map-range_with_len (λ (j : ℕ). move_at step j) 0 n k k (move_at step 0) less (omega arith)))
    ∙ sym (get_or-map g (moves_of step) k (move_at step 0) d (omega (arith, length-moves_of step))))

-- one step more is packed
pub packed_more : (route : List Move) (k : ℕ) (step : Step) (from into : List ℤ) (at : ℕ) → AreRuns route (runs route) → slice_get (runs route) k ≡ Some step → step.from + step.length ≤ length from → at + step.length ≤ length into
    → take at into ≡ packed (moves (take k (runs route))) from → take (at + step.length) (copied from step.from into at step.length) ≡ packed (moves (take (k + 1) (runs route))) from
packed_more route k step from into at are there fits room so_far =
    let n = step.length in
    let steps = runs route in
    let g : Move → ℤ = λ move. get_or from move.from (pos 0) in
    let mid = take n (drop step.from from) in
    let rest = drop (at + n) into in
    let here : get_or steps k step ≡ step = get_or_from_slice_get steps k step step there in
    let split : moves (take (k + 1) steps) ≡ moves (take k steps) ++ moves_of step = ap moves (take_more steps k step (slice_get_within steps k step there)) ∙ flat_map-append moves_of (take k steps) (get_or steps k step ∷ [])
    ∙ ap (λ (s : Step). moves (take k steps) ++ (moves_of s ++ [])) here ∙ ap (λ (ms : List Move). moves (take k steps) ++ ms) (append-nil (moves_of step)) in
    ap (λ (xs : List ℤ). take (at + n) xs) (sym (append_assoc (take at into) mid rest))
    ∙ take_at (take at into ++ mid) rest (at + n) (omega (arith, length-append (take at into) mid, length-take-le at into (omega arith), mid_length from step.from n fits))
    ∙ ap (λ (xs : List ℤ). xs ++ mid) so_far ∙ ap (λ (xs : List ℤ). packed (moves (take k steps)) from ++ xs) (step_packed step from fits)
    ∙ sym (map-append g (moves (take k steps)) (moves_of step)) ∙ ap (λ (ms : List Move). packed ms from) (sym split)

-- ---- a step unpacked
-- what was written up to a place of a route
pub record IsWritten (route : List Move) (from old into : List ℤ) (at : ℕ) : Type 0 where
  pub written : (j : ℕ) (move : Move) → j < at → slice_get route j ≡ Some move → slice_get into move.to ≡ slice_get from j
  pub others : (place : ℕ) → ((j : ℕ) (move : Move) → j < at → slice_get route j ≡ Some move → move.to ≡ place → ⊥) → slice_get into place ≡ slice_get old place

module _ (route : List Move) (k : ℕ) (step : Step) (from old into : List ℤ) (at : ℕ) (are : AreRuns route (runs route)) (order : EntersInOrder route) (there : slice_get (runs route) k ≡ Some step)
    (size : at ≡ length (moves (take k (runs route)))) (whole : at + step.length ≤ length from) (fits : step.to + step.length ≤ length into) (some : 1 ≤ step.length) (so_far : IsWritten route from old into at) where
  abbrev new : List ℤ
  new = copied from at into step.to step.length

  in_step : (i : ℕ) → i < step.length → slice_get route (at + i) ≡ Some (move_at step i)
  in_step i less = ap (λ (x : ℕ). slice_get route (x + i)) size ∙ at_step route k step are there i less

  earlier : (j : ℕ) (move : Move) → j < at → slice_get route j ≡ Some move → move.to < step.to
  earlier j move less h =
      let first = in_step 0 (omega arith) in
      let a : get_or route j move ≡ move = get_or_from_slice_get route j move move h in
      let b : get_or route (at + 0) move ≡ move_at step 0 = get_or_from_slice_get route (at + 0) (move_at step 0) move first in
      let o = rw (a, b) at (order j (at + 0) move (omega arith) (slice_get_within route (at + 0) (move_at step 0) first)) in
      omega arith

  same_some : (a b : Move) → slice_get route 0 ≡ slice_get route 0 → (let x : Option Move = Some a in x) ≡ Some b → a ≡ b
  same_some a b u e = cc

  written_more : (j : ℕ) (move : Move) → j < at + step.length → slice_get route j ≡ Some move → slice_get new move.to ≡ slice_get from j
  written_more j move less h =
      elim (cases_lt j at) [
        | inl before ↦ copied_below from at into step.to step.length move.to fits (earlier j move before h) ∙ so_far.written j move before h
        | inr after ↦
            let i = j - at in
            let inside = in_step i (omega arith) in
            let index : at + i ≡ j = omega arith in
            let same : move ≡ move_at step i = same_some move (move_at step i) refl (sym h ∙ ap (λ (x : ℕ). slice_get route x) (sym index) ∙ inside) in
            ap (λ (m : Move). slice_get new m.to) same ∙ copied_inside from at into step.to step.length i (step.to + i) j whole fits (omega arith) refl index
      ]

  others_more : (place : ℕ) → ((j : ℕ) (move : Move) → j < at + step.length → slice_get route j ≡ Some move → move.to ≡ place → ⊥) → slice_get new place ≡ slice_get old place
  others_more place none =
      let rest = so_far.others place (λ j move less h. none j move (omega arith) h) in
      elim (cases_lt place step.to) [
        | inl low ↦ copied_below from at into step.to step.length place fits low ∙ rest
        | inr high ↦
            elim (cases_lt place (step.to + step.length)) [
              | inl inside ↦ absurd (none (at + (place - step.to)) (move_at step (place - step.to)) (omega arith) (in_step (place - step.to) (omega arith)) (omega arith))
              | inr above ↦ copied_above from at into step.to step.length place whole fits above ∙ rest
            ]
      ]

  pub unpacked_more : IsWritten route from old new (at + step.length)
  unpacked_more = record { written = written_more; others = others_more }
