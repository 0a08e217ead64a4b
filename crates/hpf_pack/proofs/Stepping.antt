-- The moves of a step among those of a route.
use Rattle.std.proofs.Common.{◌≡◌, ℕ, ◌+◌, ◌-◌, ◌<◌, ◌≤◌, List, [], ◌∷◌, ◌++◌, length, take, drop, get_or, slice_get, Some, All, refl, sym, ap, ◌∙◌, subst, arith, length-append, take-append-drop}
use Rattle.std.proofs.lemmas.List.{take_more}
use Rattle.std.proofs.lemmas.List.Concat.{flat_map-append, get_or-flat_map}
use Rattle.std.proofs.lemmas.List.FromFn.{length-map-range_with_len, get_or-map-range_with_len}
use Rattle.std.proofs.lemmas.Option.{get_or_from_slice_get, slice_get_within, slice_get-get_or}
use Rattle.hpf_sched.specs.declared.step.Move.{Move}
use Rattle.hpf_sched.specs.declared.step.Step.{Step}
use Rattle.hpf_sched.specs.Moves.{moves_of, moves, AreRuns, runs}

abbrev pub move_at : Step → ℕ → Move
move_at step j = record { from = step.from + j; to = step.to + j }

pub length-moves_of : (step : Step) → length (moves_of step) ≡ step.length
length-moves_of step = length-map-range_with_len (λ (k : ℕ). move_at step k) 0 step.length

module _ (route : List Move) (k : ℕ) (step : Step) (are : AreRuns route (runs route)) (there : slice_get (runs route) k ≡ Some step) where
  abbrev before : ℕ
  before = length (moves (take k (runs route)))

  here : get_or (runs route) k step ≡ step
  here = get_or_from_slice_get (runs route) k step step there

  below : k < length (runs route)
  below = slice_get_within (runs route) k step there

  -- so many moves before the next step
  pub next : length (moves (take (k + 1) (runs route))) ≡ before + step.length
  next =
      ap (λ (ss : List Step). length (moves ss)) (take_more (runs route) k step below)
      ∙ ap length (flat_map-append moves_of (take k (runs route)) (get_or (runs route) k step ∷ []))
      ∙ omega (arith, length-append (moves (take k (runs route))) (moves_of (get_or (runs route) k step) ++ []), length-append (moves_of (get_or (runs route) k step)) [], length-moves_of (get_or (runs route) k step), ap (λ (s : Step). s.length) here)

  pub within : before + step.length ≤ length route
  within =
      let steps = runs route in
      let whole : route ≡ moves (take (k + 1) steps) ++ moves (drop (k + 1) steps) = sym are.cover ∙ ap moves (sym (take-append-drop (k + 1) steps)) ∙ flat_map-append moves_of (take (k + 1) steps) (drop (k + 1) steps) in
      omega (arith, next, ap length whole, length-append (moves (take (k + 1) steps)) (moves (drop (k + 1) steps)))

  -- the moves of the step stand one after another
  pub at_step : (j : ℕ) → j < step.length → slice_get route (before + j) ≡ Some (move_at step j)
  at_step j less =
      let d = move_at step 0 in
      let at = get_or-flat_map moves_of (runs route) k j step d below (omega (arith, length-moves_of (get_or (runs route) k step), ap (λ (s : Step). s.length) here)) in
      let one : get_or (moves (runs route)) (before + j) d ≡ move_at step j = at ∙ ap (λ (s : Step). get_or (moves_of s) j d) here ∙ get_or-map-range_with_len (λ (k : ℕ). move_at step k) 0 step.length j j d less (omega arith) in
      slice_get-get_or route (before + j) d (omega (arith, within)) ∙ ap (λ (m : Move). Some m) (ap (λ (ms : List Move). get_or ms (before + j) d) (sym are.cover) ∙ one)

  pub some : 1 ≤ step.length
  some = subst (λ (s : Step). 1 ≤ s.length) here (are.longest.some k step below)

  last_at : (n : ℕ) (at : Move → ℕ) (e : ℕ) → All (λ move. at move < n) route → at (move_at step (step.length - 1)) ≡ e + (step.length - 1) → e + step.length ≤ n
  last_at n at e all is =
      let j = step.length - 1 in
      let m = at_step j (omega (arith, some)) in
      let a = all (before + j) (move_at step j) (slice_get_within route (before + j) (move_at step j) m) in
      let b : at (get_or route (before + j) (move_at step j)) ≡ at (move_at step j) = ap at (get_or_from_slice_get route (before + j) (move_at step j) (move_at step j) m) in
      omega (arith, some)

  pub from_fits : (n : ℕ) → All (λ move. move.from < n) route → step.from + step.length ≤ n
  from_fits n all = last_at n (λ m. m.from) step.from all refl

  pub to_fits : (n : ℕ) → All (λ move. move.to < n) route → step.to + step.length ≤ n
  to_fits n all = last_at n (λ m. m.to) step.to all refl
