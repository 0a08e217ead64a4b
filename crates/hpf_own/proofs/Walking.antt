-- From one index to the next in element order.
use Rattle.std.proofs.Common.{◌≡◌, ℕ, suc, ◌+◌, ◌*◌, ◌/◌, ◌%◌, ◌<◌, ◌≤◌, Bool, true, false, List, [], ◌∷◌, ◌++◌, ◌⊎◌, inl, inr, length, map, get_or, set, take, drop, All, ℤ, pos, ◌+ℤ◌, ◌-ℤ◌, ◌≤ℤ◌, ◌<ℤ◌, Some, arith, mul_comm, sym, ap, ◌∙◌, subst, refl}
use Rattle.std.proofs.lemmas.Int.{ints}
use Rattle.std.proofs.lemmas.Nat.{mul-add-lt}
use Rattle.std.proofs.lemmas.Bool.{cases_lt}
use Rattle.std.proofs.lemmas.Option.{slice_get-get_or, slice_get_within, get_or_from_slice_get}
use Rattle.std.proofs.lemmas.List.{append_assoc, append-nil, drop_all, drop_more, take_all, take_more, take_more_set, set_split, length-set, drop-set-lt, length-map, get_or-map}
use Rattle.std.proofs.lemmas.List.Elements.{All-head, All-tail}
use Rattle.std.proofs.lemmas.List.FromFn.{get_or-map-range_with_len, length-map-range_with_len}
use Rattle.hpf_num.specs.declared.run.Run.{Run}
use Rattle.hpf_num.specs.Run.{integers, extent}
use Rattle.hpf_own.specs.Space.{indices, LiesIn}
use Rattle.hpf_own.specs.Walk.{IsIndexAt}
use Rattle.hpf_own.proofs.Choices.{get_or-choices}
use Rattle.hpf_own.proofs.Order.{split, at_most, extent_is}
use Rattle.hpf_own.proofs.Sides.{length_more}

-- The next index: the first subscript that isn't its upper bound is one greater, and those before it begin again.
abbrev pub IsNext : List Run → List ℤ → List ℤ → Bool → Type 0
IsNext [] index next more = (next ≡ index) × (more ≡ false)
IsNext (run ∷ bounds) [] next more = ⊥
IsNext (run ∷ bounds) (i ∷ index) [] more = ⊥
IsNext (run ∷ bounds) (i ∷ index) (j ∷ next) more =
    ((i <ℤ run.high) × (j ≡ i +ℤ pos 1) × (next ≡ index) × (more ≡ true))
    ⊎ ((run.high ≤ℤ i) × (j ≡ run.low) × IsNext bounds index next more)

abbrev pub IsPlace : List Run → ℕ → List ℤ → Bool → Type 0
IsPlace bounds k index true = (k < length (indices bounds)) × (get_or (indices bounds) k [] ≡ index)
IsPlace bounds k index false = k ≡ length (indices bounds)

count_of : (run : Run) → length (integers run) ≡ extent run
count_of run = length-map-range_with_len (λ (k : ℕ). run.low +ℤ pos k) 0 (extent run)

integer_at : (run : Run) (r : ℕ) → r < length (integers run) → get_or (integers run) r (pos 0) ≡ run.low +ℤ pos r
integer_at run r h =
    get_or-map-range_with_len (λ (k : ℕ). run.low +ℤ pos k) 0 (extent run) r r (pos 0) (omega (arith, count_of run)) (omega arith)

one_more : (run : Run) (r : ℕ) → (run.low +ℤ pos r) <ℤ run.high → r + 1 < length (integers run)
one_more run r h =
    let enough = at_most (run.high -ℤ run.low +ℤ pos 1) (r + 1) (omega (arith, ints)) in
    omega (arith, count_of run)

the_last : (run : Run) (r : ℕ) → r < length (integers run) → run.high ≤ℤ (run.low +ℤ pos r) → r + 1 ≡ length (integers run)
the_last run r h high =
    elim (cases_lt (r + 1) (length (integers run))) [
      | inl less ↦
          let lies = (extent_is run (r + 1) (omega (arith, count_of run))).greatest in
          absurd (omega (arith, ints))
      | inr more ↦ omega arith
    ]

-- the index at a place of the element order, one dimension more in front
joined : (run : Run) (bounds : List Run) (q r : ℕ) → q < length (indices bounds) → r < length (integers run) → (q * length (integers run) + r < length (indices (run ∷ bounds))) × (get_or (indices (run ∷ bounds)) (q * length (integers run) + r) [] ≡ (run.low +ℤ pos r) ∷ get_or (indices bounds) q [])
joined run bounds q r chosen inside =
    let rest = map integers bounds in (
      omega (arith, length_more (integers run) rest, mul-add-lt q (length (integers run)) r (length (indices bounds)) chosen inside),
      get_or-choices (integers run) rest q r [] (pos 0) chosen inside ∙ ap (λ (i : ℤ). i ∷ get_or (indices bounds) q []) (integer_at run r inside),
    )

times_more : (q n r k : ℕ) → q * n + r ≡ k → r + 1 ≡ n → (q + 1) * n + 0 ≡ k + 1
times_more q n r k e f = omega arith

times_all : (q n l m r k : ℕ) → q * n + r ≡ k → r + 1 ≡ n → q + 1 ≡ l → m ≡ n * l → k + 1 ≡ m
times_all q n l m r k e f g h =
    let whole : (q + 1) * n ≡ n * l = ap (λ (x : ℕ). x * n) g ∙ mul_comm l n in
    omega arith

-- where the first subscript begins again
carried : (run : Run) (bounds : List Run) (k q r : ℕ) (next : List ℤ) (more : Bool) → q * length (integers run) + r ≡ k → r + 1 ≡ length (integers run) → IsPlace bounds (q + 1) next more → IsPlace (run ∷ bounds) (k + 1) (run.low ∷ next) more
carried run bounds k q r next true whole last at =
    let place : (q + 1) * length (integers run) + 0 ≡ k + 1 = times_more q (length (integers run)) r k whole last in
    let there = joined run bounds (q + 1) 0 at.0 (omega arith) in
    let first : run.low +ℤ pos 0 ≡ run.low = omega (arith, ints) in (
      omega (arith, there.0),
      ap (λ (j : ℕ). get_or (indices (run ∷ bounds)) j []) (sym place) ∙ there.1
          ∙ ap (λ (i : ℤ). i ∷ get_or (indices bounds) (q + 1) []) first ∙ ap (λ (xs : List ℤ). run.low ∷ xs) at.1,
    )
carried run bounds k q r next false whole last at =
    times_all q (length (integers run)) (length (indices bounds)) (length (indices (run ∷ bounds))) r k whole last at (length_more (integers run) (map integers bounds))

-- where it is one greater
stepped : (run : Run) (bounds : List Run) (k q r : ℕ) (i j : ℤ) (index next : List ℤ) (more : Bool) → q * length (integers run) + r ≡ k → q < length (indices bounds) → i ≡ run.low +ℤ pos r → get_or (indices bounds) q [] ≡ index → i <ℤ run.high → j ≡ i +ℤ pos 1 → next ≡ index → more ≡ true → IsPlace (run ∷ bounds) (k + 1) (j ∷ next) more
stepped run bounds k q r i j index next more whole chosen is at less one same some =
    let inside = one_more run r (omega (arith, ints)) in
    let place : q * length (integers run) + (r + 1) ≡ k + 1 = omega arith in
    let there = joined run bounds q (r + 1) chosen inside in
    let value : run.low +ℤ pos (r + 1) ≡ j = omega (arith, ints) in
    rw (some, same) (
      omega (arith, there.0),
      ap (λ (x : ℕ). get_or (indices (run ∷ bounds)) x []) (sym place) ∙ there.1
          ∙ ap (λ (x : ℤ). x ∷ get_or (indices bounds) q []) value ∙ ap (λ (xs : List ℤ). j ∷ xs) at,
    )

-- the next index stands at the next place, if there is one
pub next_place : (bounds : List Run) (index next : List ℤ) (more : Bool) (k : ℕ) → IsNext bounds index next more → k < length (indices bounds) → get_or (indices bounds) k [] ≡ index → IsPlace bounds (k + 1) next more
next_place [] index next more k h below at = rw h.1 (omega arith)
next_place (run ∷ bounds) [] next more k h below at = absurd h
next_place (run ∷ bounds) (i ∷ index) [] more k h below at = absurd h
next_place (run ∷ bounds) (i ∷ index) (j ∷ next) more k h below at =
    let n = length (integers run) in
    let s = split n (length (indices bounds)) k (omega (arith, length_more (integers run) (map integers bounds))) in
    let there = (joined run bounds (k / n) (k % n) s.chosen s.item).1 in
    let both : (run.low +ℤ pos (k % n)) ∷ get_or (indices bounds) (k / n) [] ≡ i ∷ index =
    sym there ∙ ap (λ (x : ℕ). get_or (indices (run ∷ bounds)) x []) s.whole ∙ at in
    let first : run.low +ℤ pos (k % n) ≡ i = ap (λ (xs : List ℤ). get_or xs 0 (pos 0)) both in
    let others : get_or (indices bounds) (k / n) [] ≡ index = ap (λ (xs : List ℤ). drop 1 xs) both in
    elim h [
      | inl up ↦ stepped run bounds k (k / n) (k % n) i j index next more s.whole s.chosen (sym first) others up.0 up.1 up.2 up.3
      | inr again ↦
          let last = the_last run (k % n) s.item (rw first again.0) in
          rw again.1 (carried run bounds k (k / n) (k % n) next more s.whole last (next_place bounds index next more (k / n) again.2 s.chosen others))
    ]

pub place_is : (bounds : List Run) (k : ℕ) (index : List ℤ) (more : Bool) → IsPlace bounds k index more → IsIndexAt bounds k index more
place_is bounds k index true h = slice_get-get_or (indices bounds) k [] h.0 ∙ ap (λ (xs : List ℤ). Some xs) h.1
place_is bounds k index false h = h

pub next_index_at : (bounds : List Run) (index next : List ℤ) (more : Bool) (k : ℕ) → IsNext bounds index next more → IsIndexAt bounds k index true → IsIndexAt bounds (k + 1) next more
next_index_at bounds index next more k h at =
    place_is bounds (k + 1) next more (next_place bounds index next more k h (slice_get_within (indices bounds) k index at) (get_or_from_slice_get (indices bounds) k index [] at))

-- it lies in the bounds
pub next_lies : (bounds : List Run) (index next : List ℤ) (more : Bool) → IsNext bounds index next more → LiesIn bounds index → LiesIn bounds next
next_lies [] index next more h lies = rw h.0 lies
next_lies (run ∷ bounds) [] next more h lies = absurd h
next_lies (run ∷ bounds) (i ∷ index) [] more h lies = absurd h
next_lies (run ∷ bounds) (i ∷ index) (j ∷ next) more h lies =
    let least = lies.0.least in
    let greatest = lies.0.greatest in
    elim h [
      | inl up ↦
          let less = up.0 in
          let one = up.1 in
          (record { least = omega (arith, ints); greatest = omega (arith, ints) }, rw up.2 lies.1)
      | inr again ↦
          let low = again.1 in
          (record { least = omega (arith, ints); greatest = omega (arith, ints) }, next_lies bounds index next more again.2 lies.1)
    ]

-- ---- one dimension after another
-- the subscripts before a dimension have begun again
pub record IsWrapped (bounds : List Run) (index : List ℤ) (d : ℕ) (now : List ℤ) : Type 0 where
  pub rank : length now ≡ length bounds
  pub rest : (next : List ℤ) (more : Bool) → IsNext (drop d bounds) (drop d now) next more → IsNext bounds index (take d now ++ next) more

pub wrapped_none : (bounds : List Run) (index : List ℤ) → length index ≡ length bounds → IsWrapped bounds index 0 index
wrapped_none bounds index h = record { rank = h; rest = λ next more is. is }

pub wrapped_more : (bounds : List Run) (index now : List ℤ) (d : ℕ) (run : Run) (i : ℤ) → d < length bounds → run ≡ get_or bounds d run → i ≡ get_or now d i → run.high ≤ℤ i → IsWrapped bounds index d now → IsWrapped bounds index (d + 1) (set now d run.low)
wrapped_more bounds index now d run i below is at high h =
    let within : d < length now = omega (arith, h.rank) in
    record {
      rank = length-set now d run.low ∙ h.rank;
      rest = λ next more n.
          let here : drop d bounds ≡ run ∷ drop (d + 1) bounds = drop_more bounds d run below ∙ ap (λ (r : Run). r ∷ drop (d + 1) bounds) (sym is) in
          let there : drop d now ≡ i ∷ drop (d + 1) now = drop_more now d i within ∙ ap (λ (x : ℤ). x ∷ drop (d + 1) now) (sym at) in
          let after : IsNext (drop (d + 1) bounds) (drop (d + 1) now) next more =
          subst (λ (xs : List ℤ). IsNext (drop (d + 1) bounds) xs next more) (drop-set-lt (d + 1) now d run.low (omega arith)) n in
          let whole : IsNext (drop d bounds) (drop d now) (run.low ∷ next) more = rw (here, there) (inr (high, refl, after)) in
          rw (take_more_set now d run.low within, append_assoc (take d now) (run.low ∷ []) next) (h.rest (run.low ∷ next) more whole);
    }

pub wrapped_up : (bounds : List Run) (index now : List ℤ) (d : ℕ) (run : Run) (i j : ℤ) → d < length bounds → run ≡ get_or bounds d run → i ≡ get_or now d i → i <ℤ run.high → j ≡ i +ℤ pos 1 → IsWrapped bounds index d now → IsNext bounds index (set now d j) true
wrapped_up bounds index now d run i j below is at less one h =
    let within : d < length now = omega (arith, h.rank) in
    let here : drop d bounds ≡ run ∷ drop (d + 1) bounds = drop_more bounds d run below ∙ ap (λ (r : Run). r ∷ drop (d + 1) bounds) (sym is) in
    let there : drop d now ≡ i ∷ drop (d + 1) now = drop_more now d i within ∙ ap (λ (x : ℤ). x ∷ drop (d + 1) now) (sym at) in
    let whole : IsNext (drop d bounds) (drop d now) (j ∷ drop (d + 1) now) true = rw (here, there) (inl (less, one, refl, refl)) in
    let suc_is : suc d ≡ d + 1 = omega arith in
    rw (set_split now d j within, suc_is) (h.rest (j ∷ drop (d + 1) now) true whole)

pub wrapped_all : (bounds : List Run) (index now : List ℤ) (d : ℕ) → length bounds ≤ d → IsWrapped bounds index d now → IsNext bounds index now false
wrapped_all bounds index now d end h =
    let here : drop d bounds ≡ [] = drop_all d bounds end in
    let there : drop d now ≡ [] = drop_all d now (omega (arith, h.rank)) in
    let none : IsNext (drop d bounds) (drop d now) [] false = rw (here, there) (refl, refl) in
    let whole : take d now ++ [] ≡ now = append-nil (take d now) ∙ take_all d now (omega (arith, h.rank)) in
    subst (λ (xs : List ℤ). IsNext bounds index xs false) whole (h.rest [] false none)

-- ---- the first index
abbrev pub lows : List Run → List ℤ
lows bounds = map (λ (run : Run). run.low) bounds

some_integer : (run : Run) → run.low ≤ℤ run.high → 0 < length (integers run)
some_integer run h =
    let some = at_most (run.high -ℤ run.low +ℤ pos 1) 0 (omega (arith, ints)) in
    omega (arith, count_of run)

pub first_place : (bounds : List Run) → All (λ run. run.low ≤ℤ run.high) bounds → IsPlace bounds 0 (lows bounds) true
first_place [] h = (omega arith, refl)
first_place (run ∷ bounds) h =
    let some = some_integer run (All-head (λ (run : Run). run.low ≤ℤ run.high) run bounds h) in
    let rest = first_place bounds (All-tail (λ (run : Run). run.low ≤ℤ run.high) run bounds h) in
    let there = joined run bounds 0 0 rest.0 some in
    let place : 0 * length (integers run) + 0 ≡ 0 = omega arith in
    let first : run.low +ℤ pos 0 ≡ run.low = omega (arith, ints) in (
      omega (arith, there.0),
      ap (λ (x : ℕ). get_or (indices (run ∷ bounds)) x []) (sym place) ∙ there.1
          ∙ ap (λ (i : ℤ). i ∷ get_or (indices bounds) 0 []) first ∙ ap (λ (xs : List ℤ). run.low ∷ xs) rest.1,
    )

pub first_lies : (bounds : List Run) → All (λ run. run.low ≤ℤ run.high) bounds → LiesIn bounds (lows bounds)
first_lies [] h = tt
first_lies (run ∷ bounds) h =
    let order = All-head (λ (run : Run). run.low ≤ℤ run.high) run bounds h in
    (record { least = omega (arith, ints); greatest = order }, first_lies bounds (All-tail (λ (run : Run). run.low ≤ℤ run.high) run bounds h))

pub written_more : (bounds : List Run) (into : List ℤ) (d : ℕ) (run : Run) → d < length bounds → length into ≡ length bounds → run ≡ get_or bounds d run → take d into ≡ take d (lows bounds) → take (d + 1) (set into d run.low) ≡ take (d + 1) (lows bounds)
written_more bounds into d run below rank is h =
    let low : get_or (lows bounds) d run.low ≡ run.low = get_or-map (λ (r : Run). r.low) bounds d run run.low below ∙ ap (λ (r : Run). r.low) (sym is) in
    take_more_set into d run.low (omega arith)
    ∙ ap (λ (xs : List ℤ). xs ++ run.low ∷ []) h
    ∙ sym (take_more (lows bounds) d run.low (omega (arith, length-map bounds (λ (r : Run). r.low))) ∙ ap (λ (x : ℤ). take d (lows bounds) ++ x ∷ []) low)

pub written_all : (bounds : List Run) (into : List ℤ) (d : ℕ) → length bounds ≤ d → length into ≡ length bounds → take d into ≡ take d (lows bounds) → into ≡ lows bounds
written_all bounds into d end rank h =
    sym (take_all d into (omega arith)) ∙ h ∙ take_all d (lows bounds) (omega (arith, length-map bounds (λ (r : Run). r.low)))
