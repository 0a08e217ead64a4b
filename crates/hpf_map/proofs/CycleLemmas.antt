-- Which names are on cycles: those at which a walk ends and from which a way still leads on.
use Rattle.std.proofs.Common.{◌≡◌, ◌≢◌, ℕ, ◌+◌, ◌-◌, ◌<◌, ◌≤◌, ◌⊎◌, inl, inr, suc, zero, Bool, true, false, cond, ◌&&◌, ◌||◌, List, [], ◌∷◌, length, get_or, set, replicate, Some, None, refl, sym, ap, ◌∙◌, arith}
use Rattle.std.specs.Prelude.{◌==◌}
use Rattle.std.specs.Fn.{iterate}
use Rattle.std.specs.List.{list_any, range_with_len, AllByRecursion, IsDistinct}
use Rattle.std.proofs.Math.Bool.{and-false}
use Rattle.std.proofs.Math.Dec.{eqb}
use Rattle.std.proofs.Math.ListN.{get_or-eq_default}
use Rattle.std.proofs.lemmas.Bool.{cases_Bool, cases_lt, cases_eq, eqb-true, eq-eqb, or_left, or_right}
use Rattle.std.proofs.lemmas.List.{get_or-set_other, get_or-set_same, length-set, length-replicate}
use Rattle.std.proofs.lemmas.List.FromFn.{length-range_with_len, get_or-range_with_len}
use Rattle.std.proofs.lemmas.List.Folds.{list_any_at, Any-from_list_any}
use Rattle.std.proofs.lemmas.Map.Keys.{IsDistinct-cons}
use Rattle.std.proofs.lemmas.Map.Steps.{length-le_from_distinct_below}
use Rattle.hpf_map.specs.declared.way.Way.{Way}
use Rattle.hpf_map.specs.declared.way.Way.TheVariants.{Unmapped, Distributed, Aligned}
use Rattle.hpf_map.specs.Ways.{way_at, leads_on, step_from, step, walk, walk_end, is_on_cycle}
use Rattle.hpf_map.proofs.WalkLemmas.{walk-iterate, iterate-add}

-- ---- a name from which no way leads on

stays_by : (n : ℕ) (way : Way) → leads_on way ≡ false → step_from n way ≡ n
stays_by n Unmapped h = refl
stays_by n (Distributed k) h = refl
stays_by n (Aligned k None) h = refl
stays_by n (Aligned k (Some base)) h = absurd cc

stays : (f : ℕ → ℕ) (n : ℕ) → f n ≡ n → (k : ℕ) → iterate f k n ≡ n
stays f n e zero = refl
stays f n e (suc k) = ap (iterate f k) e ∙ stays f n e k

-- Where one comes to leads on only if where one started does.
led : (ways : List Way) (k n : ℕ) → leads_on (way_at ways (iterate (step ways) k n)) ≡ true → leads_on (way_at ways n) ≡ true
led ways k n h = elim (cases_Bool (leads_on (way_at ways n))) [
  | inl holds ↦ holds
  | inr fails ↦
      let same : iterate (step ways) k n ≡ n = stays (step ways) n (stays_by n (way_at ways n) fails) k in
      ap (λ m. leads_on (way_at ways m)) (sym same) ∙ h
]

-- a name that isn't there leads nowhere
led_below : (ways : List Way) (n : ℕ) → leads_on (way_at ways n) ≡ true → n < length ways
led_below ways n h = elim (cases_lt n (length ways)) [
  | inl below ↦ below
  | inr past ↦
      let none : way_at ways n ≡ Unmapped = get_or-eq_default ways Unmapped past in
      let off : leads_on (way_at ways n) ≡ false = ap leads_on none in
      absurd cc
]

-- ---- a walk that is longer than there are names visits some name again

trail : (ℕ → ℕ) → ℕ → ℕ → List ℕ
trail f zero n = n ∷ []
trail f (suc k) n = n ∷ trail f k (f n)

length-trail : (f : ℕ → ℕ) (k n : ℕ) → length (trail f k n) ≡ k + 1
unfolding trail
length-trail f zero n = refl
length-trail f (suc k) n = let more : length (trail f k (f n)) ≡ k + 1 = length-trail f k (f n) in omega arith

record Visits (f : ℕ → ℕ) (k n q : ℕ) : Type 0 where
  steps : ℕ
  within : steps ≤ k
  there : iterate f steps n ≡ q

visits_first : (f : ℕ → ℕ) (k n q : ℕ) → eqb q n ≡ true → Visits f k n q
visits_first f k n q h = record { steps = 0; within = omega arith; there = sym (eqb-true q n h) }

visits_later : (f : ℕ → ℕ) (k n q : ℕ) → Visits f k (f n) q → Visits f (suc k) n q
visits_later f k n q v = let w = v.within in record { steps = suc v.steps; within = omega (arith, w); there = v.there }

visits : (f : ℕ → ℕ) (k n q : ℕ) → list_any (eqb q) (trail f k n) ≡ true → Visits f k n q
unfolding trail
visits f zero n q h = elim (cases_Bool (eqb q n)) [
  | inl holds ↦ visits_first f zero n q holds
  | inr fails ↦ absurd (cc)
]
visits f (suc k) n q h = elim (cases_Bool (eqb q n)) [
  | inl holds ↦ visits_first f (suc k) n q holds
  | inr fails ↦ visits_later f k n q (visits f k (f n) q (rw fails at h))
]

record Repeats (f : ℕ → ℕ) (k n : ℕ) : Type 0 where
  first : ℕ
  period : ℕ
  positive : 1 ≤ period
  within : first + period ≤ k
  again : iterate f period (iterate f first n) ≡ iterate f first n

repeats_now : (f : ℕ → ℕ) (k n : ℕ) → Visits f k (f n) n → Repeats f (suc k) n
repeats_now f k n v =
    let w = v.within in
    record { first = 0; period = suc v.steps; positive = omega arith; within = omega (arith, w); again = v.there }

repeats_later : (f : ℕ → ℕ) (k n : ℕ) → Repeats f k (f n) → Repeats f (suc k) n
repeats_later f k n r =
    let w = r.within in
    record { first = suc r.first; period = r.period; positive = r.positive; within = omega (arith, w); again = r.again }

apart : (n : ℕ) (xs : List ℕ) → list_any (eqb n) xs ≡ false → AllByRecursion (λ y. eqb n y ≡ false) xs
apart n [] h = tt
apart n (x ∷ xs) h = elim (cases_Bool (eqb n x)) [
  | inl holds ↦ absurd (let t : list_any (eqb n) (x ∷ xs) ≡ true = rw holds refl in cc)
  | inr fails ↦ (fails, apart n xs (rw fails at h))
]

distinct_one : (n : ℕ) → IsDistinct eqb (n ∷ [])
unfolding IsDistinct
distinct_one n = (tt, tt)

distinct_or_repeats : (f : ℕ → ℕ) (k n : ℕ) → IsDistinct eqb (trail f k n) ⊎ Repeats f k n
unfolding trail
distinct_or_repeats f zero n = inl (distinct_one n)
distinct_or_repeats f (suc k) n = elim (cases_Bool (list_any (eqb n) (trail f k (f n)))) [
  | inl holds ↦ inr (repeats_now f k n (visits f k (f n) n holds))
  | inr fails ↦ elim (distinct_or_repeats f k (f n)) [
    | inl d ↦ inl (IsDistinct-cons eqb n (trail f k (f n)) (apart n (trail f k (f n)) fails) d)
    | inr r ↦ inr (repeats_later f k n r)
  ]
]

-- ---- the end of a walk

-- what is visited leads on where the end does
visited_below : (ways : List Way) (n q : ℕ) → leads_on (way_at ways (iterate (step ways) (length ways) n)) ≡ true
    → Visits (step ways) (length ways) n q → q < length ways
visited_below ways n q h v =
    let w = v.within in
    let all : length ways ≡ v.steps + (length ways - v.steps) = omega (arith, w) in
    let end : iterate (step ways) (length ways) n ≡ iterate (step ways) (length ways - v.steps) q =
    ap (λ k. iterate (step ways) k n) all ∙ iterate-add (step ways) v.steps (length ways - v.steps) n
    ∙ ap (iterate (step ways) (length ways - v.steps)) v.there in
    let on : leads_on (way_at ways (iterate (step ways) (length ways - v.steps) q)) ≡ true = ap (λ m. leads_on (way_at ways m)) (sym end) ∙ h in
    led_below ways q (led ways (length ways - v.steps) q on)

repeats : (ways : List Way) (n : ℕ) → leads_on (way_at ways (iterate (step ways) (length ways) n)) ≡ true → Repeats (step ways) (length ways) n
repeats ways n h = elim (distinct_or_repeats (step ways) (length ways) n) [
  | inl d ↦
      let long = length-trail (step ways) (length ways) n in
      let few = length-le_from_distinct_below (trail (step ways) (length ways) n) (length ways) d
      (λ q at. visited_below ways n q h (visits (step ways) (length ways) n q at)) in
      absurd (omega (arith, long, few))
  | inr r ↦ r
]

-- from a repeated name on each name is repeated
goes_round : (f : ℕ → ℕ) (k n : ℕ) (r : Repeats f k n) → iterate f r.period (iterate f k n) ≡ iterate f k n
goes_round f k n r =
    let w = r.within in
    let all : k ≡ r.first + (k - r.first) = omega (arith, w) in
    let end : iterate f k n ≡ iterate f (k - r.first) (iterate f r.first n) = ap (λ m. iterate f m n) all ∙ iterate-add f r.first (k - r.first) n in
    let swap : (k - r.first) + r.period ≡ r.period + (k - r.first) = omega arith in
    ap (iterate f r.period) end
    ∙ sym (iterate-add f (k - r.first) r.period (iterate f r.first n))
    ∙ ap (λ m. iterate f m (iterate f r.first n)) swap
    ∙ iterate-add f r.period (k - r.first) (iterate f r.first n)
    ∙ ap (iterate f (k - r.first)) r.again
    ∙ sym end

-- a test that some number of steps passes
in_steps : (test : ℕ → Bool) (count q : ℕ) → 1 ≤ q → q ≤ count → test q ≡ true → list_any test (range_with_len 1 count) ≡ true
in_steps test count q low high h =
    let back : 1 + (q - 1) ≡ q = omega arith in
    list_any_at test (range_with_len 1 count) (q - 1) 0 (omega (arith, length-range_with_len 1 count))
    (ap test (get_or-range_with_len 1 count (q - 1) 0 (omega arith) ∙ back) ∙ h)

record Steps (test : ℕ → Bool) : Type 0 where
  number : ℕ
  positive : 1 ≤ number
  passes : test number ≡ true

of_steps : (test : ℕ → Bool) (count : ℕ) → list_any test (range_with_len 1 count) ≡ true → Steps test
of_steps test count h =
    let some = Any-from_list_any test (range_with_len 1 count) h in
    let is : 1 + some.0 ≡ some.1 =
    sym (get_or-range_with_len 1 count some.0 some.1 (omega (arith, some.2, length-range_with_len 1 count))) ∙ some.3 in
    record { number = some.1; positive = omega (arith, is); passes = some.4 }

-- a walk that ends where a way leads on ends on a cycle
pub end_on_cycle : (ways : List Way) (m n : ℕ) → iterate (step ways) (length ways) m ≡ n → leads_on (way_at ways n) ≡ true
    → list_any (λ k. walk ways k n == n) (range_with_len 1 (length ways)) ≡ true
end_on_cycle ways m n e h =
    let on : leads_on (way_at ways (iterate (step ways) (length ways) m)) ≡ true = ap (λ k. leads_on (way_at ways k)) e ∙ h in
    let r = repeats ways m on in
    let w = r.within in
    let p = r.positive in
    let round : iterate (step ways) r.period n ≡ n = ap (iterate (step ways) r.period) (sym e) ∙ goes_round (step ways) (length ways) m r ∙ e in
    in_steps (λ k. walk ways k n == n) (length ways) r.period p (omega (arith, w))
    (eq-eqb (walk ways r.period n) n (walk-iterate ways r.period n ∙ round))

-- ---- one comes to each name on a cycle in any number of steps

record From (f : ℕ → ℕ) (k n : ℕ) : Type 0 where
  start : ℕ
  there : iterate f k start ≡ n

after : (f : ℕ → ℕ) (k n : ℕ) (p : ℕ) → f p ≡ n → From f k p → From f (suc k) n
after f k n p e r =
    let more : suc k ≡ k + 1 = omega arith in
    record { start = r.start; there = ap (λ m. iterate f m r.start) more ∙ iterate-add f k 1 r.start ∙ ap f r.there ∙ e }

-- the name before it
before_it : (f : ℕ → ℕ) (period n : ℕ) → iterate f (suc period) n ≡ n → f (iterate f period n) ≡ n
before_it f period n e =
    let more : period + 1 ≡ suc period = omega arith in
    sym (iterate-add f period 1 n) ∙ ap (λ m. iterate f m n) more ∙ e

-- which is on the cycle too
before_it_round : (f : ℕ → ℕ) (period n : ℕ) → iterate f (suc period) n ≡ n → iterate f (suc period) (iterate f period n) ≡ iterate f period n
before_it_round f period n e =
    let swap : period + suc period ≡ suc period + period = omega arith in
    sym (iterate-add f period (suc period) n) ∙ ap (λ m. iterate f m n) swap ∙ iterate-add f (suc period) period n ∙ ap (iterate f period) e

from_anywhere : (f : ℕ → ℕ) (period k n : ℕ) → iterate f (suc period) n ≡ n → From f k n
from_anywhere f period zero n e = record { start = n; there = refl }
from_anywhere f period (suc k) n e =
    after f k n (iterate f period n) (before_it f period n e) (from_anywhere f period k (iterate f period n) (before_it_round f period n e))

from_any_period : (f : ℕ → ℕ) (period k n : ℕ) → 1 ≤ period → iterate f period n ≡ n → From f k n
from_any_period f zero k n positive e = absurd (omega arith)
from_any_period f (suc period) k n positive e = from_anywhere f period k n e

-- ---- the names at which walks end

pub reached : (ℕ → ℕ) → ℕ → ℕ → Bool
reached end zero n = false
reached end (suc i) n = (end i == n) || reached end i n

reached_from : (end : ℕ → ℕ) (i m n : ℕ) → m < i → end m ≡ n → reached end i n ≡ true
unfolding reached
reached_from end zero m n h e = absurd (omega arith)
reached_from end (suc i) m n h e = elim (cases_eq m i) [
  | inl same ↦ or_left (end i == n) (reached end i n) (eq-eqb (end i) n (ap end (sym same) ∙ e))
  | inr other ↦ or_right (end i == n) (reached end i n) (reached_from end i m n (omega arith) e)
]

record Ends (end : ℕ → ℕ) (n : ℕ) : Type 0 where
  start : ℕ
  there : end start ≡ n

reached_by : (end : ℕ → ℕ) (i n : ℕ) → reached end i n ≡ true → Ends end n
unfolding reached
reached_by end zero n h = absurd cc
reached_by end (suc i) n h = elim (cases_Bool (end i == n)) [
  | inl holds ↦ record { start = i; there = eqb-true (end i) n holds }
  | inr fails ↦ reached_by end i n (rw fails at h)
]

same_tests : (a b : Bool) → (a ≡ true → b ≡ true) → (b ≡ true → a ≡ true) → a ≡ b
same_tests true b f g = sym (f refl)
same_tests false true f g = g refl
same_tests false false f g = refl

cycle_reached : (ways : List Way) (n : ℕ) → leads_on (way_at ways n) ≡ true
    → list_any (λ k. walk ways k n == n) (range_with_len 1 (length ways)) ≡ true → reached (walk_end ways) (length ways) n ≡ true
cycle_reached ways n on h =
    let r : Steps (λ k. walk ways k n == n) = of_steps (λ k. walk ways k n == n) (length ways) h in
    let round : iterate (step ways) r.number n ≡ n = sym (walk-iterate ways r.number n) ∙ eqb-true (walk ways r.number n) n r.passes in
    let start = from_any_period (step ways) r.number (length ways) n r.positive round in
    let on_end : leads_on (way_at ways (iterate (step ways) (length ways) start.start)) ≡ true = ap (λ m. leads_on (way_at ways m)) start.there ∙ on in
    reached_from (walk_end ways) (length ways) start.start n
    (led_below ways start.start (led ways (length ways) start.start on_end))
    (walk-iterate ways (length ways) start.start ∙ start.there)

reached_cycle : (ways : List Way) (n : ℕ) → leads_on (way_at ways n) ≡ true → reached (walk_end ways) (length ways) n ≡ true
    → list_any (λ k. walk ways k n == n) (range_with_len 1 (length ways)) ≡ true
reached_cycle ways n on h =
    let e : Ends (walk_end ways) n = reached_by (walk_end ways) (length ways) n h in
    end_on_cycle ways e.start n (sym (walk-iterate ways (length ways) e.start) ∙ e.there) on

on_cycle_by : (ways : List Way) (n : ℕ) (on : Bool) → leads_on (way_at ways n) ≡ on
    → (on && reached (walk_end ways) (length ways) n) ≡ (on && list_any (λ k. walk ways k n == n) (range_with_len 1 (length ways)))
on_cycle_by ways n false e = refl
on_cycle_by ways n true e = same_tests _ _ (reached_cycle ways n e) (cycle_reached ways n e)

-- ---- marks

-- a mark at each name on a cycle at which one of the first walks ends
pub record IsMarked (ways : List Way) (i : ℕ) (marks : List Bool) : Type 0 where
  pub long : length marks ≡ length ways
  pub value : (n : ℕ) → get_or marks n false ≡ (leads_on (way_at ways n) && reached (walk_end ways) i n)

unmarked : (count n : ℕ) → get_or (replicate count false) n false ≡ false
unmarked zero n = refl
unmarked (suc count) zero = refl
unmarked (suc count) (suc n) = unmarked count n

-- no marks
pub IsMarked-none : (ways : List Way) (marks : List Bool) (count : ℕ) → marks ≡ replicate count false → count ≡ length ways → IsMarked ways 0 marks
unfolding reached
IsMarked-none ways marks count none all = record {
  long = ap length none ∙ length-replicate count false ∙ all;
  value = λ n. ap (λ ms. get_or ms n false) none ∙ unmarked count n ∙ sym (and-false (leads_on (way_at ways n)));
}

mark_of : (marks : List Bool) (end n : ℕ) (leads reaches on here : Bool) → (end == n) ≡ here → (here ≡ true → leads ≡ on)
    → (on ≡ true → end < length marks) → get_or marks n false ≡ (leads && reaches)
    → get_or (cond on (set marks end true) marks) n false ≡ (leads && (here || reaches))
mark_of marks end n leads reaches false false e l inside v = v
mark_of marks end n leads reaches false true e l inside v = v ∙ ap (λ b. b && reaches) (l refl) ∙ sym (ap (λ b. b && true) (l refl))
mark_of marks end n leads reaches true false e l inside v =
    let other : n ≢ end = λ (same : n ≡ end). let t : (end == n) ≡ true = eq-eqb end n (sym same) in cc in
    get_or-set_other marks end n true false other ∙ v
mark_of marks end n leads reaches true true e l inside v =
    ap (λ m. get_or (set marks end true) m false) (sym (eqb-true end n e))
    ∙ get_or-set_same marks end true false (inside refl)
    ∙ sym (ap (λ b. b && true) (l refl))

-- one walk more
pub IsMarked-more : {ways : List Way} {i : ℕ} {before : List Bool} (end : ℕ) (after : List Bool) → IsMarked ways i before → end ≡ walk_end ways i
    → after ≡ cond (leads_on (way_at ways end)) (set before end true) before → IsMarked ways (i + 1) after
unfolding reached
IsMarked-more {ways = ways} {i = i} {before = before} end after m is e = record {
  long = ap length e ∙ length_of (leads_on (way_at ways end)) ∙ m.long;
  value = λ n.
      let more : suc i ≡ i + 1 = omega arith in
      let long : length before ≡ length ways = m.long in
      ap (λ ms. get_or ms n false) e
      ∙ mark_of before end n (leads_on (way_at ways n)) (reached (walk_end ways) i n) (leads_on (way_at ways end)) (end == n) refl
      (λ here. ap (λ k. leads_on (way_at ways k)) (sym (eqb-true end n here)))
      (λ on. let b : end < length ways = led_below ways end on in omega arith)
      (m.value n)
      ∙ ap (λ k. leads_on (way_at ways n) && ((k == n) || reached (walk_end ways) i n)) is
      ∙ ap (λ k. leads_on (way_at ways n) && reached (walk_end ways) k n) more;
} where
  length_of : (on : Bool) → length (cond on (set before end true) before) ≡ length before
  length_of true = length-set before end true
  length_of false = refl

-- all walks
pub IsMarked-all : {ways : List Way} {marks : List Bool} {i : ℕ} → IsMarked ways i marks → i ≡ length ways
    → (n : ℕ) → get_or marks n false ≡ is_on_cycle ways n
unfolding is_on_cycle
IsMarked-all {ways = ways} {marks = marks} {i = i} m all n =
    m.value n ∙ ap (λ k. leads_on (way_at ways n) && reached (walk_end ways) k n) all ∙ on_cycle_by ways n (leads_on (way_at ways n)) refl
