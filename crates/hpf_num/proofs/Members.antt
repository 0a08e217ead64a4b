-- Ascending lists of integers.
use Rattle.std.proofs.Common.{◌≡◌, ℕ, suc, ◌+◌, ◌-◌, ◌<◌, ◌≤◌, Bool, true, false, List, [], ◌∷◌, ◌++◌, length, map, filter, get_or, All, ℤ, pos, negsuc, ◌+ℤ◌, ◌-ℤ◌, ◌≤ℤ◌, ◌<ℤ◌, arith, refl, subst, sym, ap, ◌∙◌, inl, inr, cond, eqb, FitsSigned, w64, to_z, of_z, to_z-of_z, unsigned_abs, ◌*ℤ◌, ◌^◌}
use Rattle.std.specs.Prelude.{AllPairs}
use Rattle.std.specs.List.{list_any, range_with_len}
use Rattle.std.specs.Int.RustNames.{int_le}
use Rattle.std.specs.Ordering.{int_eq}
use Rattle.std.proofs.lemmas.Int.{ints, unsigned_abs-mul, fits_signed_from_abs}
use Rattle.std.proofs.lemmas.Nat.{mul-le}
use Rattle.std.proofs.lemmas.List.{get_or_append_left, get_or-append_right, get_or_default, length-append}
use Rattle.std.proofs.lemmas.List.Elements.{All-filter, All-append}
use Rattle.std.proofs.lemmas.List.FromFn.{get_or-map-range_with_len, length-map-range_with_len, filter_of_map_range_with_len_more}
use Rattle.std.proofs.lemmas.Bool.{cases_lt, or_cases, and_parts, and_from, eqb-true, eq-eqb}
use Rattle.std.proofs.lemmas.Bool.Decides.{Decides-int_eq}
use Rattle.std.proofs.lemmas.List.Folds.{list_any_at}
use Rattle.hpf_num.specs.declared.run.Run.{Run}
use Rattle.hpf_num.specs.Run.{integers, extent, or_zero, LiesWithin}
use Rattle.hpf_num.specs.Runs.{IsSmall, IsInLimits, AreMembers, has, is_near}
use Rattle.hpf_num.specs.Limits.{integer_limit}

pub fits_small : (i : ℤ) → IsSmall i → FitsSigned w64 i
fits_small i h = omega (arith, ints)

-- two tests that follow from each other are one
pub same_test : (a b : Bool) → (a ≡ true → b ≡ true) → (b ≡ true → a ≡ true) → a ≡ b
same_test true b h k = sym (h refl)
same_test false true h k = k refl
same_test false false h k = refl

-- where an item passes
pub record IsPassed {A : Type 0} (p : A → Bool) (xs : List A) (d : A) : Type 0 where
  pub place : ℕ
  pub below : place < length xs
  pub passes : p (get_or xs place d) ≡ true

pub passed : {A : Type 0} (p : A → Bool) (xs : List A) (d : A) → list_any p xs ≡ true → IsPassed p xs d
passed p [] d h = absurd (let e : false ≡ true = h in cc)
passed {A} p (x ∷ xs) d h =
    elim (or_cases (p x) (list_any p xs) h) [
      | inl here ↦ record { place = 0; below = omega arith; passes = here }
      | inr later ↦
          let f = passed p xs d later in
          let below : f.place < length xs = f.below in
          record { place = suc f.place; below = omega arith; passes = f.passes }
    ]

-- up to a place, members are at most the one there
pub upto : (members : List ℤ) (m k : ℕ) → AllPairs (λ i j. i <ℤ j) members → m < length members → k ≤ m → get_or members k (pos 0) ≤ℤ get_or members m (pos 0)
upto members m k h below order =
    elim (cases_lt k m) [
      | inl less ↦ let l = h k m (pos 0) less below in omega (arith, ints)
      | inr most ↦ let same : k ≡ m = omega arith in rw same (omega (arith, ints))
    ]

-- where an integer would stand: so many members are below it
pub record StandsAt (members : List ℤ) (i : ℤ) (at : ℕ) : Type 0 where
  pub ascending : AllPairs (λ i j. i <ℤ j) members
  pub below : (k : ℕ) → k < at → get_or members k (pos 0) <ℤ i
  pub others : (k : ℕ) → at ≤ k → k < length members → i ≤ℤ get_or members k (pos 0)

-- what the code says of a place, in these words
pub place_stands : (members : List ℤ) (i j : ℤ) (at : ℕ) → FitsSigned w64 i → i ≡ j → AreMembers members → ((k : ℕ) → k < at → get_or members k (pos 0) <ℤ to_z w64 (of_z w64 i)) → ((k : ℕ) → at ≤ k → k < length members → to_z w64 (of_z w64 i) ≤ℤ get_or members k (pos 0)) → StandsAt members j at
place_stands members i j at f same h below others =
    subst (λ (z : ℤ). StandsAt members z at) (to_z-of_z f ∙ same) (record { ascending = h.ascending; below = below; others = others })

pub small_at : (members : List ℤ) (at : ℕ) (x : ℤ) → AreMembers members → at < length members → x ≡ get_or members at x → FitsSigned w64 x
small_at members at x h below is = fits_small x (subst IsSmall (sym is) (h.small at x below))

pub eq_true : (x y : ℤ) → int_eq x y ≡ true → x ≡ y
eq_true x y h = (Decides-int_eq x y).0 h

pub true_eq : (x y : ℤ) → x ≡ y → int_eq x y ≡ true
true_eq x y h = (Decides-int_eq x y).1 h

-- a member stands at its place
pub member_stands : (members : List ℤ) (i : ℤ) (at k : ℕ) → StandsAt members i at → k < length members → get_or members k (pos 0) ≡ i → k ≡ at
member_stands members i at k s below same =
    elim (cases_lt k at) [
      | inl less ↦ let l = s.below k less in absurd (omega (arith, ints))
      | inr most ↦ elim (cases_lt at k) [
        | inl more ↦
            let o = s.others at (omega arith) (omega arith) in
            let l = s.ascending at k (pos 0) more below in
            absurd (omega (arith, ints))
        | inr least ↦ omega arith
      ]
    ]

pub has_at : (members : List ℤ) (k : ℕ) (i : ℤ) → k < length members → get_or members k (pos 0) ≡ i → has members i ≡ true
has_at members k i below same = list_any_at (λ j. int_eq j i) members k (pos 0) below (true_eq _ i same)

-- a member is found at its place
pub has_stands : (members : List ℤ) (i : ℤ) (at : ℕ) → StandsAt members i at → has members i ≡ true → (at < length members) × (get_or members at (pos 0) ≡ i)
has_stands members i at s h =
    let f = passed (λ j. int_eq j i) members (pos 0) h in
    let e = eq_true _ i f.passes in
    let same = member_stands members i at f.place s f.below e in
    (subst (λ (k : ℕ). k < length members) same f.below, subst (λ (k : ℕ). get_or members k (pos 0) ≡ i) same e)

pub same_bits : (x y : ℤ) → FitsSigned w64 x → FitsSigned w64 y → of_z w64 x ≡ of_z w64 y → x ≡ y
same_bits x y f g e = omega (arith, ints)

-- the test that the code makes
pub has_tested : (members : List ℤ) (i x : ℤ) (at : ℕ) → StandsAt members i at → at < length members → FitsSigned w64 x → FitsSigned w64 i → x ≡ get_or members at x → eqb (of_z w64 x) (of_z w64 i) ≡ has members i
has_tested members i x at s below f g is =
    let here : x ≡ get_or members at (pos 0) = is ∙ get_or_default members at x (pos 0) below in
    same_test _ _
    (λ t. has_at members at i below (sym here ∙ same_bits x i f g (eqb-true _ _ t)))
    (λ h. eq-eqb _ _ (ap (of_z w64) (here ∙ (has_stands members i at s h).1)))

pub has_none : (members : List ℤ) (i : ℤ) (at : ℕ) → StandsAt members i at → length members ≤ at → false ≡ has members i
has_none members i at s past =
    same_test _ _ (λ e. absurd (let z : false ≡ true = e in cc)) (λ h. let b = (has_stands members i at s h).0 in absurd (omega arith))

pub le_true : (x y : ℤ) → int_le x y ≡ true → x ≤ℤ y
le_true x y h = grind (arith, ints)

pub true_le : (x y : ℤ) → x ≤ℤ y → int_le x y ≡ true
true_le x y h = grind (arith, ints)

-- an integer near to a member
near_parts : (low high : ℕ) (j i : ℤ) → is_near low high j i ≡ true → (j ≤ℤ (i +ℤ pos low)) × ((i -ℤ pos high) ≤ℤ j)
near_parts low high j i h =
    let b = and_parts (int_le (j -ℤ pos low) i) (int_le i (j +ℤ pos high)) h in
    let x = le_true (j -ℤ pos low) i b.0 in
    let y = le_true i (j +ℤ pos high) b.1 in
    (omega (arith, ints), omega (arith, ints))

near_from : (low high : ℕ) (j i : ℤ) → j ≤ℤ (i +ℤ pos low) → (i -ℤ pos high) ≤ℤ j → is_near low high j i ≡ true
near_from low high j i a b =
    and_from (int_le (j -ℤ pos low) i) (int_le i (j +ℤ pos high)) (true_le (j -ℤ pos low) i (omega (arith, ints))) (true_le i (j +ℤ pos high) (omega (arith, ints)))

-- the first member that isn't too far below is the one to be tested
pub near_tested : (members : List ℤ) (i x : ℤ) (low high at : ℕ) → StandsAt members (i -ℤ pos high) at → at < length members → x ≡ get_or members at x → int_le x (i +ℤ pos low) ≡ list_any (λ j. is_near low high j i) members
near_tested members i x low high at s below is =
    let here : x ≡ get_or members at (pos 0) = is ∙ get_or_default members at x (pos 0) below in
    let o = s.others at (omega arith) below in
    same_test (int_le x (i +ℤ pos low)) _
    (λ t. list_any_at (λ j. is_near low high j i) members at (pos 0) below (near_from low high _ i (rw (← here) (le_true x (i +ℤ pos low) t)) o))
    (λ h.
    let f = passed (λ j. is_near low high j i) members (pos 0) h in
    let n = near_parts low high _ i f.passes in
    elim (cases_lt f.place at) [
      | inl less ↦ let l = s.below f.place less in absurd (omega (arith, ints, n.1))
      | inr most ↦ let u = upto members f.place at s.ascending f.below most in
          let m = n.0 in true_le x (i +ℤ pos low) (rw here (omega (arith, ints)))
    ])

pub near_none : (members : List ℤ) (i : ℤ) (low high at : ℕ) → StandsAt members (i -ℤ pos high) at → length members ≤ at → false ≡ list_any (λ j. is_near low high j i) members
near_none members i low high at s past =
    same_test _ _
    (λ e. absurd (let z : false ≡ true = e in cc))
    (λ h.
    let f = passed (λ j. is_near low high j i) members (pos 0) h in
    let n = near_parts low high _ i f.passes in
    let fb = f.below in
    let l = s.below f.place (omega arith) in
    absurd (omega (arith, ints, n.1)))

-- ---- a linear image of a small integer
product_small : (a i : ℤ) → unsigned_abs a ≤ integer_limit → IsSmall i → unsigned_abs (a *ℤ i) ≤ 2 ^ 62 - 1
product_small a i h k =
    let small : unsigned_abs i ≤ integer_limit = omega (arith, ints) in
    rw (unsigned_abs-mul a i) (omega (arith, mul-le (unsigned_abs a) (unsigned_abs i) integer_limit integer_limit h small))

fits_abs : (a : ℤ) (n : ℕ) → unsigned_abs a ≤ n → n < 2 ^ 63 → FitsSigned w64 a
fits_abs a n h k = fits_signed_from_abs w64 a (omega arith)

pub product_fits : (a i : ℤ) → unsigned_abs a ≤ integer_limit → IsSmall i → FitsSigned w64 (a *ℤ i)
product_fits a i h k = fits_abs (a *ℤ i) (2 ^ 62 - 1) (product_small a i h k) (omega arith)

sum_fits : (x b : ℤ) → unsigned_abs x ≤ 2 ^ 62 - 1 → unsigned_abs b ≤ 2 ^ 62 → FitsSigned w64 (x +ℤ b)
sum_fits x b h k = omega (arith, ints)

pub linear_fits : (a i b : ℤ) → unsigned_abs a ≤ integer_limit → IsSmall i → unsigned_abs b ≤ 2 ^ 62 → FitsSigned w64 ((a *ℤ i) +ℤ b)
linear_fits a i b h k l = sum_fits (a *ℤ i) b (product_small a i h k) l

-- ---- walking a run
-- the integers of a run at the places before k
abbrev pub front : Run → ℕ → List ℤ
front run k = map (λ j. run.low +ℤ pos j) (range_with_len 0 k)

pub front_below : (run : Run) (n k : ℕ) (i : ℤ) → n ≤ k → i ≡ run.low +ℤ pos k → All (λ j. j <ℤ i) (front run n)
front_below run n k i order e = λ j d below.
    let at : ℕ → ℤ = λ j. run.low +ℤ pos j in
    let within : j < n = omega (arith, length-map-range_with_len at 0 n) in
    rw (get_or-map-range_with_len at 0 n j j d within (omega arith), e) (omega (arith, ints))

pub front_filter_below : (p : ℤ → Bool) (run : Run) (k : ℕ) (i : ℤ) → i ≡ run.low +ℤ pos k → All (λ j. j <ℤ i) (filter p (front run k))
front_filter_below p run k i e = All-filter p (λ j. j <ℤ i) (front run k) (front_below run k k i (omega arith) e)

pub front_more : (p : ℤ → Bool) (run : Run) (k : ℕ) (i : ℤ) → i ≡ run.low +ℤ pos k → filter p (front run (k + 1)) ≡ filter p (front run k) ++ cond (p i) (i ∷ []) []
front_more p run k i e = rw e (filter_of_map_range_with_len_more p (λ j. run.low +ℤ pos j) 0 k k (omega arith))

-- one integer more, kept where it passes
pub walk_more : (p : ℤ → Bool) (run : Run) (k : ℕ) (i x : ℤ) (b : Bool) (before after : List ℤ) → i ≡ run.low +ℤ pos k → x ≡ i → b ≡ p i → before ≡ filter p (front run k) → after ≡ before ++ cond b (x ∷ []) [] → after ≡ filter p (front run (k + 1))
walk_more p run k i x b before after place same test is more =
    rw (front_more p run k i place, more, is, same, test) refl

-- ascending integers behind ascending ones that are below them
pub append_ascending : (xs ys : List ℤ) (i : ℤ) → AllPairs (λ i j. i <ℤ j) xs → AllPairs (λ i j. i <ℤ j) ys → All (λ j. j <ℤ i) xs → All (λ j. i ≤ℤ j) ys → AllPairs (λ i j. i <ℤ j) (xs ++ ys)
append_ascending xs ys i h k below above = λ a b d order within.
    let n = length xs in
    elim (cases_lt b n) [
      | inl left ↦ rw (get_or_append_left xs ys d a (omega arith), get_or_append_left xs ys d b left) (h a b d order left)
      | inr right ↦
          let y = above (b - n) d (omega (arith, length-append xs ys)) in
          elim (cases_lt a n) [
            | inl early ↦
                let x = below a d early in
                rw (get_or_append_left xs ys d a early, get_or-append_right xs ys n b d refl right) (omega (arith, ints))
            | inr late ↦
                rw (get_or-append_right xs ys n a d refl late, get_or-append_right xs ys n b d refl right)
                (k (a - n) (b - n) d (omega arith) (omega (arith, length-append xs ys)))
          ]
    ]

pub run_ascending : (run : Run) → AllPairs (λ i j. i <ℤ j) (integers run)
run_ascending run = λ a b d order within.
    let at : ℕ → ℤ = λ j. run.low +ℤ pos j in
    let inside : b < extent run = omega (arith, length-map-range_with_len at 0 (extent run)) in
    rw (get_or-map-range_with_len at 0 (extent run) a a d (omega arith) (omega arith), get_or-map-range_with_len at 0 (extent run) b b d inside (omega arith)) (omega (arith, ints))

at_least : (z : ℤ) (k : ℕ) → k < or_zero z → pos (k + 1) ≤ℤ z
at_least (pos n) k h = omega (arith, ints)
at_least (negsuc n) k h = absurd (omega arith)

pub or_zero_is : (z : ℤ) → pos 0 ≤ℤ z → pos (or_zero z) ≡ z
or_zero_is (pos n) h = refl
or_zero_is (negsuc n) h = absurd (omega (arith, ints))

pub in_run : (run : Run) (k : ℕ) → k < extent run → LiesWithin run (run.low +ℤ pos k)
in_run run k h =
    let l = at_least (run.high -ℤ run.low +ℤ pos 1) k h in
    record { least = omega (arith, ints); greatest = omega (arith, ints) }

pub small_in_run : (run : Run) (i : ℤ) → IsInLimits run → LiesWithin run i → IsSmall i
small_in_run run i limits h = record { least = omega (arith, ints); greatest = omega (arith, ints) }

pub run_all : (P : ℤ → Type 0) (run : Run) → ((i : ℤ) → LiesWithin run i → P i) → All P (integers run)
run_all P run h = λ k d below.
    let at : ℕ → ℤ = λ j. run.low +ℤ pos j in
    let inside : k < extent run = omega (arith, length-map-range_with_len at 0 (extent run)) in
    rw (get_or-map-range_with_len at 0 (extent run) k k d inside (omega arith)) (h _ (in_run run k inside))

-- members with a run behind them
pub push_members : (xs : List ℤ) (run : Run) → AreMembers xs → IsInLimits run → All (λ j. j <ℤ run.low) xs → AreMembers (xs ++ integers run)
push_members xs run h limits below =
    record {
      ascending = append_ascending xs (integers run) run.low h.ascending (run_ascending run) below (run_all (λ j. run.low ≤ℤ j) run (λ i l. l.least));
      small = All-append IsSmall xs (integers run) h.small (run_all IsSmall run (λ i l. small_in_run run i limits l));
    }
