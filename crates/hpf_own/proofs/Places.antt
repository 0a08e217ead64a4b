-- Places by arithmetic, and the one way in which a part is made.
use Rattle.std.proofs.Common.{◌≡◌, ℕ, zero, suc, ◌+◌, ◌*◌, ◌<◌, ◌⊎◌, List, [], ◌∷◌, length, map, get_or, All, AllPairs, Contains, slice_get, Some, ℤ, pos, ◌-ℤ◌, ◌+ℤ◌, ◌<ℤ◌, refl, sym, ap, ◌∙◌, subst, arith, mul_comm, mul_assoc, inl, inr}
use Rattle.std.proofs.lemmas.Bool.{cases_order}
use Rattle.std.proofs.lemmas.Nat.{mul-add-lt}
use Rattle.std.proofs.lemmas.Int.{ints}
use Rattle.std.proofs.lemmas.List.{get_or_default, same_lists}
use Rattle.std.proofs.lemmas.List.Elements.{All-head, All-tail}
use Rattle.std.proofs.lemmas.List.FromFn.{get_or-map-range_with_len, length-map-range_with_len}
use Rattle.std.proofs.lemmas.Option.{slice_get-get_or, slice_get_within, get_or_from_slice_get}
use Rattle.hpf_num.specs.declared.run.Run.{Run}
use Rattle.hpf_num.specs.Run.{integers, extent, or_zero, LiesWithin}
use Rattle.hpf_num.specs.Runs.{AreMembers}
use Rattle.hpf_own.specs.Space.{choices, indices, LiesIn, StandOnce}
use Rattle.hpf_own.specs.Held.{Part, IsMadeOf}
use Rattle.hpf_own.specs.Places.{AreRanks, place_from, place_of, ranks_in}
use Rattle.hpf_own.proofs.Choices.{get_or-choices}
use Rattle.hpf_own.proofs.Order.{AllOnce, choices_once, extents, or_zero_is, at_most}
use Rattle.hpf_own.proofs.Sides.{length_more}
use Rattle.hpf_own.proofs.Standing.{standing}

-- ---- the place of a choice
wider : (a b c : ℕ) → a * (b * c) ≡ (a * b) * c
wider a b c = sym (mul_assoc a b c)

times_sum : (w r p : ℕ) → w * (r + p) ≡ r * w + w * p
times_sum w r p = omega (arith, mul_comm w r)

-- so many times as wide, so many times as far
place_wider : (w v : ℕ) (counts ranks : List ℕ) → place_from (w * v) counts ranks ≡ w * place_from v counts ranks
place_wider w v [] ranks = omega arith
place_wider w v (n ∷ counts) [] = omega arith
place_wider w v (n ∷ counts) (r ∷ ranks) =
    let rest : place_from ((w * v) * n) counts ranks ≡ w * place_from (v * n) counts ranks =
    ap (λ (x : ℕ). place_from x counts ranks) (mul_assoc w v n) ∙ place_wider w (v * n) counts ranks in
    let first : r * (w * v) ≡ w * (r * v) = wider r w v ∙ ap (λ (x : ℕ). x * v) (mul_comm r w) ∙ mul_assoc w r v in
    rw (rest, first) (omega (arith, sym (distribute w (r * v) (place_from (v * n) counts ranks))))
  where
    distribute : (a b c : ℕ) → a * (b + c) ≡ a * b + a * c
    distribute a b c = omega arith

place_more : (n r : ℕ) (counts ranks : List ℕ) → place_of (n ∷ counts) (r ∷ ranks) ≡ place_of counts ranks * n + r
place_more n r counts ranks =
    let one : 1 * n ≡ n * 1 = omega arith in
    let rest : place_from (1 * n) counts ranks ≡ n * place_of counts ranks = ap (λ (x : ℕ). place_from x counts ranks) one ∙ place_wider n 1 counts ranks in
    rw rest (omega (arith, mul_comm n (place_of counts ranks)))

-- the place of an index among the choices
pub place_is : (lists : List (List ℤ)) (index : List ℤ) (ranks : List ℕ) → AreRanks lists index ranks → slice_get (choices lists) (place_of (map length lists) ranks) ≡ Some index
place_is [] [] [] h = refl
place_is [] [] (r ∷ ranks) h = absurd h
place_is [] (i ∷ index) ranks h = absurd h
place_is (items ∷ lists) [] ranks h = absurd h
place_is (items ∷ lists) (i ∷ index) [] h = absurd h
place_is (items ∷ lists) (i ∷ index) (r ∷ ranks) h =
    let place = place_of (map length lists) ranks in
    let rest = place_is lists index ranks h.1 in
    let low = slice_get_within items r i h.0 in
    let high = slice_get_within (choices lists) place index rest in
    let below : place * length items + r < length (choices (items ∷ lists)) = omega (arith, length_more items lists, mul-add-lt place (length items) r (length (choices lists)) high low) in
    let at : get_or (choices (items ∷ lists)) (place * length items + r) [] ≡ i ∷ index =
    get_or-choices items lists place r [] i high low
    ∙ ap (λ (x : ℤ). x ∷ get_or (choices lists) place []) (get_or_from_slice_get items r i i h.0)
    ∙ ap (λ (xs : List ℤ). i ∷ xs) (get_or_from_slice_get (choices lists) place index [] rest) in
    rw (place_more (length items) r (map length lists) ranks) (slice_get-get_or (choices (items ∷ lists)) (place * length items + r) [] below ∙ ap (λ (xs : List ℤ). Some xs) at)

pub place_in_part : (part : Part) (lists : List (List ℤ)) (index : List ℤ) (ranks : List ℕ) → IsMadeOf part lists → AreRanks lists index ranks → slice_get part.indices (place_of (map length lists) ranks) ≡ Some index
place_in_part part lists index ranks made h =
    subst (λ (xs : List (List ℤ)). slice_get xs (place_of (map length lists) ranks) ≡ Some index) (sym made.every) (place_is lists index ranks h)

-- ---- the whole bounds
rank_in_run : (run : Run) (i : ℤ) → LiesWithin run i → slice_get (integers run) (or_zero (i -ℤ run.low)) ≡ Some i
rank_in_run run i h =
    let at : ℕ → ℤ = λ j. run.low +ℤ pos j in
    let k = or_zero (i -ℤ run.low) in
    let is : pos k ≡ i -ℤ run.low = or_zero_is (i -ℤ run.low) (let z = h.least in omega (arith, ints)) in
    let within : k < extent run = at_most (run.high -ℤ run.low +ℤ pos 1) k (let z = h.greatest in omega (arith, ints)) in
    slice_get-get_or (integers run) k i (omega (arith, within, length-map-range_with_len at 0 (extent run)))
    ∙ ap (λ (x : ℤ). Some x) (get_or-map-range_with_len at 0 (extent run) k k i within (omega arith) ∙ omega (arith, ints))

ranks_are : (bounds : List Run) (index : List ℤ) → LiesIn bounds index → AreRanks (map integers bounds) index (ranks_in bounds index)
ranks_are [] [] h = tt
ranks_are [] (i ∷ index) h = absurd h
ranks_are (run ∷ bounds) [] h = absurd h
ranks_are (run ∷ bounds) (i ∷ index) h = (rank_in_run run i h.0, ranks_are bounds index h.1)

pub place_in_bounds : (bounds : List Run) (index : List ℤ) → LiesIn bounds index → slice_get (indices bounds) (place_of (map extent bounds) (ranks_in bounds index)) ≡ Some index
place_in_bounds bounds index h =
    rw (← extents bounds) (place_is (map integers bounds) index (ranks_in bounds index) (ranks_are bounds index h))

-- ---- ascending lists
-- each of them stands once
members_once : (xs : List ℤ) → AllPairs (λ i j. i <ℤ j) xs → StandOnce xs
members_once xs h i j d below within same =
    elim (cases_order i j) [
      | inl at ↦ at
      | inr other ↦
          elim other [
            | inl less ↦ absurd (let a = h i j d less within in omega (arith, ints))
            | inr more ↦ absurd (let a = h j i d more below in omega (arith, ints))
          ]
    ]

all_once : (lists : List (List ℤ)) → All AreMembers lists → AllOnce lists
all_once [] h = tt
all_once (xs ∷ lists) h =
    (members_once xs (All-head AreMembers xs lists h).ascending, all_once lists (All-tail AreMembers xs lists h))

pub part_once : (lists : List (List ℤ)) → All AreMembers lists → StandOnce (choices lists)
part_once lists h = λ i j d below within same. choices_once lists i j d (pos 0) (all_once lists h) below within same

-- ascending lists with the same members are the same
later_greater : (x : ℤ) (xs : List ℤ) (i : ℤ) → AllPairs (λ i j. i <ℤ j) (x ∷ xs) → Contains xs i → x <ℤ i
later_greater x xs i h at = subst (λ (y : ℤ). x <ℤ y) at.2 (h 0 (suc at.0) i (omega arith) (omega (arith, at.1)))

ascending_tail : (x : ℤ) (xs : List ℤ) → AllPairs (λ i j. i <ℤ j) (x ∷ xs) → AllPairs (λ i j. i <ℤ j) xs
ascending_tail x xs h = λ i j d less below. h (suc i) (suc j) d (omega arith) (omega arith)

-- what stands in a list stands first or later
first_or_later : (x : ℤ) (xs : List ℤ) (i : ℤ) → Contains (x ∷ xs) i → (x ≡ i) ⊎ Contains xs i
first_or_later x xs i (zero, below, is) = inl is
first_or_later x xs i (suc k, below, is) = inr (k, omega arith, is)

first_same : (x y : ℤ) (xs ys : List ℤ) → AllPairs (λ i j. i <ℤ j) (x ∷ xs) → AllPairs (λ i j. i <ℤ j) (y ∷ ys) → Contains (y ∷ ys) x → Contains (x ∷ xs) y → x ≡ y
first_same x y xs ys h k there here =
    elim (first_or_later y ys x there) [
      | inl same ↦ sym same
      | inr later ↦
          elim (first_or_later x xs y here) [
            | inl same ↦ same
            | inr other ↦ absurd (let a = later_greater y ys x k later in let b = later_greater x xs y h other in omega (arith, ints))
          ]
    ]

later_same : (x y : ℤ) (xs ys : List ℤ) → x ≡ y → AllPairs (λ i j. i <ℤ j) (x ∷ xs) → ((i : ℤ) → Contains (x ∷ xs) i → Contains (y ∷ ys) i) → (i : ℤ) → Contains xs i → Contains ys i
later_same x y xs ys same h each i at =
    elim (first_or_later y ys i (each i (suc at.0, omega (arith, at.1), at.2))) [
      | inl first ↦ absurd (let a = later_greater x xs i h at in omega (arith, ints))
      | inr later ↦ later
    ]

members_same : (xs ys : List ℤ) → AllPairs (λ i j. i <ℤ j) xs → AllPairs (λ i j. i <ℤ j) ys → ((i : ℤ) → Contains xs i → Contains ys i) → ((i : ℤ) → Contains ys i → Contains xs i) → xs ≡ ys
members_same [] [] h k there here = refl
members_same [] (y ∷ ys) h k there here = absurd (let z = here y (0, omega arith, refl) in omega (arith, z.1))
members_same (x ∷ xs) [] h k there here = absurd (let z = there x (0, omega arith, refl) in omega (arith, z.1))
members_same (x ∷ xs) (y ∷ ys) h k there here =
    let first : x ≡ y = first_same x y xs ys h k (there x (0, omega arith, refl)) (here y (0, omega arith, refl)) in
    let rest : xs ≡ ys = members_same xs ys (ascending_tail x xs h) (ascending_tail y ys k) (later_same x y xs ys first h there) (later_same y x ys xs (sym first) k here) in
    cc

-- a part is made in one way
pub one_way : (part : Part) (a b : List (List ℤ)) → IsMadeOf part a → IsMadeOf part b → a ≡ b
one_way part a b made other =
    same_lists a b (sym made.rank ∙ other.rank) (λ d e below.
    let within : d < length b = omega (arith, made.rank, other.rank) in
    let xs = get_or a d [] in
    let ys = get_or b d [] in
    let same : xs ≡ ys = members_same xs ys (made.members d [] below).ascending (other.members d [] within).ascending
    (λ i h. (standing part b d i other within).1 ((standing part a d i made below).0 h))
    (λ i h. (standing part a d i made below).1 ((standing part b d i other within).0 h)) in
    get_or_default a d e [] below ∙ same ∙ get_or_default b d [] e within)
