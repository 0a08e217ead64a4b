-- Each place of what a processor holds is entered once, from the place of its source.
use Rattle.std.proofs.Common.{◌≡◌, ℕ, zero, suc, ◌<◌, ◌==◌, Bool, true, false, cond, List, [], ◌∷◌, length, map, filter, get_or, slice_get, Option, Some, Contains, All, ◌≤◌, ℤ, refl, sym, ap, ◌∙◌, subst, arith, inl, inr}
use Rattle.std.specs.Option.{option_map}
use Rattle.std.specs.Ordering.{int_eq}
use Rattle.std.specs.Cmp.Lexicographic.{pointwise}
use Rattle.std.proofs.lemmas.Bool.{cases_order}
use Rattle.std.proofs.lemmas.Bool.Decides.{Decides-eqb}
use Rattle.std.proofs.lemmas.List.{get_or_default, length-map}
use Rattle.std.proofs.lemmas.List.Elements.{Contains-get_or}
use Rattle.std.proofs.lemmas.Option.{slice_get-map, slice_get_within, slice_get-get_or, get_or_from_slice_get}
use Rattle.hpf_num.specs.declared.run.Run.{Run}
use Rattle.hpf_own.specs.Space.{indices, LiesIn, product, StandOnce}
use Rattle.hpf_own.specs.Mapping.{PlainMapping, IsMapping}
use Rattle.hpf_own.specs.Owners.{sender}
use Rattle.hpf_own.specs.Held.{is_held, owned_part, held_part}
use Rattle.hpf_sched.specs.declared.step.Move.{Move}
use Rattle.hpf_sched.specs.Transfer.{IsHop, source_of, arrivals, move_of, transfer}
use Rattle.hpf_sched.proofs.Finding.{same_index_decides, contains_behind, contains_from, contains_mapped, found, place_is}
use Rattle.hpf_sched.proofs.Planning.{Laws, Pair, is_filtered, passes_filter, sent_is, source_lies, goes_in_order}

-- ---- a filter of different items has different items
once_tail : {A : Type 0} (x : A) (xs : List A) → StandOnce (x ∷ xs) → StandOnce xs
once_tail x xs h = λ i j d below within same. let e = h (suc i) (suc j) d (omega arith) (omega arith) same in omega arith

once_head : {A : Type 0} (x : A) (xs : List A) → StandOnce (x ∷ xs) → Contains xs x → ⊥
once_head x xs h c = let e = h 0 (suc c.0) x (omega arith) (omega (arith, c.1)) (sym c.2) in absurd (omega arith)

once_at : {A : Type 0} (x : A) (xs : List A) → (Contains xs x → ⊥) → StandOnce xs → (i j : ℕ) (d : A) → i < suc (length xs) → j < suc (length xs) → get_or (x ∷ xs) i d ≡ get_or (x ∷ xs) j d → i ≡ j
once_at x xs other h zero zero d below within same = refl
once_at x xs other h zero (suc j) d below within same = absurd (other (j, omega arith, get_or_default xs j x d (omega arith) ∙ sym same))
once_at x xs other h (suc i) zero d below within same = absurd (other (i, omega arith, get_or_default xs i x d (omega arith) ∙ same))
once_at x xs other h (suc i) (suc j) d below within same = ap suc (h i j d (omega arith) (omega arith) same)

once_here : {A : Type 0} (b : Bool) (x : A) (xs : List A) → (Contains xs x → ⊥) → StandOnce xs → StandOnce (cond b (x ∷ xs) xs)
once_here true x xs other h = λ i j d below within same. once_at x xs other h i j d below within same
once_here false x xs other h = h

pub once_filter : {A : Type 0} (p : A → Bool) (xs : List A) → StandOnce xs → StandOnce (filter p xs)
once_filter p [] h = h
once_filter p (x ∷ xs) h =
    once_here (p x) x (filter p xs) (λ c. once_head x xs h (is_filtered p xs x c).0) (once_filter p xs (once_tail x xs h))

-- ---- lists
mapped_contains : {A B : Type 0} (f : A → B) (xs : List A) (x : A) → Contains xs x → Contains (map f xs) (f x)
mapped_contains f [] x h = absurd (omega (arith, h.1))
mapped_contains f (y ∷ xs) x (zero, below, is) = (0, omega arith, ap f is)
mapped_contains f (y ∷ xs) x (suc k, below, is) = contains_behind (f y) (map f xs) (f x) (mapped_contains f xs x (k, omega arith, is))

same_first : {A : Type 0} (x y : A) → (let a : Option A = Some x in a) ≡ Some y → x ≡ y
same_first x y e = cc

same_by_place : {A : Type 0} (xs ys : List A) → length xs ≡ length ys → ((k : ℕ) → k < length xs → slice_get xs k ≡ slice_get ys k) → xs ≡ ys
same_by_place [] [] e h = refl
same_by_place [] (y ∷ ys) e h = absurd (omega arith)
same_by_place (x ∷ xs) [] e h = absurd (omega arith)
same_by_place (x ∷ xs) (y ∷ ys) e h =
    let first = same_first x y (h 0 (omega arith)) in
    let rest = same_by_place xs ys (omega arith) (λ k below. h (suc k) (omega arith)) in
    cc

-- what is known of a hop, of whichever sender
pub record Known (from to : PlainMapping) (perm : List ℕ) (q : ℕ) : Type 0 where
  pub pair : (p : ℕ) → p < product from.procs → Pair from to perm p q
  pub held_once : StandOnce (held_part to q).indices
  pub below : (index : List ℤ) → LiesIn from.bounds index → sender from index < product from.procs
  pub some : 0 < product from.procs

-- an element that arrives
pub record Arrival (from to : PlainMapping) (perm : List ℕ) (p q : ℕ) (move : Move) : Type 0 where
  pub index : List ℤ
  pub held : Contains (held_part to q).indices index
  pub sent : sender from (source_of from to perm index) ≡ p
  pub is : move_of from to perm p q index ≡ move

module _ (from to : PlainMapping) (perm : List ℕ) (q : ℕ) (known : Known from to perm q) where
  abbrev src : List ℤ → List ℤ
  src i = source_of from to perm i

  pub arrival : (p : ℕ) (move : Move) → Contains (transfer from to perm p q) move → Arrival from to perm p q move
  arrival p move h =
      let m = contains_mapped (move_of from to perm p q) (arrivals from to perm p q) move h in
      let f = is_filtered (λ i. sender from (src i) == p) (held_part to q).indices m.0 m.1 in
      record { index = m.0; held = f.0; sent = (Decides-eqb (sender from (src m.0)) p).0 f.1; is = m.2 }

  -- it enters the place of the element
  pub enters : (p : ℕ) (move : Move) (a : Arrival from to perm p q move) → slice_get (held_part to q).indices move.to ≡ Some a.index
  enters p move a =
      ap (λ (m : Move). slice_get (held_part to q).indices m.to) (sym a.is) ∙ found (pointwise int_eq) same_index_decides (held_part to q).indices a.index a.held

  -- and leaves that of its source
  pub leaves : (p : ℕ) (move : Move) (a : Arrival from to perm p q move) → p < product from.procs → slice_get (owned_part from p).indices move.from ≡ Some (src a.index)
  leaves p move a below =
      let pair = known.pair p below in
      let both = (pair.laws.exactly from p (src a.index) pair.before below (source_lies from to perm p q pair a.index a.held)).0 a.sent in
      let owned = (sent_is from to perm p q pair a.index a.held both.0).0 a.sent in
      ap (λ (m : Move). slice_get (owned_part from p).indices m.from) (sym a.is) ∙ found (pointwise int_eq) same_index_decides (owned_part from p).indices (src a.index) owned

  -- each place is entered
  pub some_enters : (place : ℕ) → place < length (held_part to q).indices → (p : ℕ) × (p < product from.procs) × (move : Move) × Contains (transfer from to perm p q) move × (move.to ≡ place)
  some_enters place below =
      let i = get_or (held_part to q).indices place [] in
      let here = Contains-get_or (held_part to q).indices place [] below in
      let p = sender from (src i) in
      let less = known.below (src i) (source_lies from to perm 0 q (known.pair 0 known.some) i here) in
      let passes = (Decides-eqb (sender from (src i)) p).1 refl in
      let arrives = mapped_contains (move_of from to perm p q) (arrivals from to perm p q) i (passes_filter (λ i. sender from (src i) == p) (held_part to q).indices i here passes) in (
        p,
        less,
        move_of from to perm p q i,
        arrives,
        place_is (pointwise int_eq) same_index_decides (held_part to q).indices place i known.held_once (slice_get-get_or (held_part to q).indices place [] below),
      )

  same_move : (p : ℕ) → p < product from.procs → (i j : ℕ) (first second : Move) → slice_get (transfer from to perm p q) i ≡ Some first → slice_get (transfer from to perm p q) j ≡ Some second → first.to ≡ second.to → i ≡ j
  same_move p below i j first second a b same =
      let list = transfer from to perm p q in
      let order = goes_in_order from to perm p q (known.pair p below) known.held_once in
      let at_i : get_or list i first ≡ first = get_or_from_slice_get list i first first a in
      let at_j : get_or list j first ≡ second = get_or_from_slice_get list j second first b in
      elim (cases_order i j) [
        | inl at ↦ at
        | inr other ↦
            elim other [
              | inl less ↦ let o = rw (at_i, at_j) at (order i j first less (slice_get_within list j second b)) in absurd (omega arith)
              | inr more ↦ let o = rw (at_j, at_i) at (order j i first more (slice_get_within list i first a)) in absurd (omega arith)
            ]
      ]

  -- and once, over all senders
  pub once_enters : (p r i j : ℕ) (first second : Move) → p < product from.procs → r < product from.procs → slice_get (transfer from to perm p q) i ≡ Some first → slice_get (transfer from to perm r q) j ≡ Some second → first.to ≡ second.to → (p ≡ r) × (i ≡ j)
  once_enters p r i j first second below within a b same =
      let x = arrival p first (contains_from (transfer from to perm p q) i first a) in
      let y = arrival r second (contains_from (transfer from to perm r q) j second b) in
      let index : x.index ≡ y.index = same_first x.index y.index (sym (enters p first x) ∙ ap (λ (n : ℕ). slice_get (held_part to q).indices n) same ∙ enters r second y) in
      let senders : p ≡ r = sym x.sent ∙ ap (λ (i : List ℤ). sender from (src i)) index ∙ y.sent in
      (senders, same_move r within i j first second (subst (λ (s : ℕ). slice_get (transfer from to perm s q) i ≡ Some first) senders a) b same)

  -- values
  pub carried : (p : ℕ) (value : List ℤ → ℤ) (move : Move) → p < product from.procs → Contains (transfer from to perm p q) move
      → slice_get (map value (owned_part from p).indices) move.from ≡ slice_get (map (λ index. value (src index)) (held_part to q).indices) move.to
  carried p value move below h =
      let a = arrival p move h in
      slice_get-map value (owned_part from p).indices move.from ∙ ap (option_map value) (leaves p move a below)
      ∙ ap (option_map (λ index. value (src index))) (sym (enters p move a)) ∙ sym (slice_get-map (λ index. value (src index)) (held_part to q).indices move.to)

  pub filled : (value : List ℤ → ℤ) (part : List ℤ) → length part ≡ length (held_part to q).indices
      → ((p : ℕ) (move : Move) → p < product from.procs → Contains (transfer from to perm p q) move → slice_get part move.to ≡ slice_get (map value (owned_part from p).indices) move.from)
      → part ≡ map (λ index. value (src index)) (held_part to q).indices
  filled value part long each =
      let whole = map (λ index. value (src index)) (held_part to q).indices in
      same_by_place part whole (long ∙ sym (length-map (held_part to q).indices (λ index. value (src index)))) (λ k below.
      let s = some_enters k (omega arith) in
      ap (λ (n : ℕ). slice_get part n) (sym s.4) ∙ each s.0 s.2 s.1 s.3 ∙ carried s.0 value s.2 s.1 s.3 ∙ ap (λ (n : ℕ). slice_get whole n) s.4)

-- what a hop is, with the laws
pub known_of : (from to : PlainMapping) (perm : List ℕ) (q : ℕ) → Laws → IsHop from to perm → ((bounds : List Run) (i j : ℕ) (d : List ℤ) → i < length (indices bounds) → j < length (indices bounds)
    → get_or (indices bounds) i d ≡ get_or (indices bounds) j d → i ≡ j) → ((m : PlainMapping) (index : List ℤ) → IsMapping m → LiesIn m.bounds index → sender m index < product m.procs)
    → ((sizes : List ℕ) → All (λ size. 1 ≤ size) sizes → 1 ≤ product sizes) → Known from to perm q
known_of from to perm q laws hop once below some = record {
  pair = λ p less. record { laws = laws; before = hop.before; receiving = hop.receiving; perm_is = hop.permutes; agree = hop.agree; below = less };
  held_once = once_filter (is_held to q) (indices to.bounds) (once to.bounds);
  below = λ index. below from index hop.before;
  some = some from.procs hop.before.procs.some;
}
