-- What goes enters its places in order.
use Rattle.std.proofs.Common.{◌≡◌, ℕ, zero, suc, ◌+◌, ◌<◌, ◌≤◌, Bool, true, false, cond, List, [], ◌∷◌, length, map, filter, get_or, refl, ◌∙◌, arith}
use Rattle.std.specs.Bool.{Decides}
use Rattle.std.proofs.lemmas.Option.{slice_get-get_or}
use Rattle.hpf_own.specs.Space.{StandOnce}
use Rattle.hpf_sched.specs.declared.step.Move.{Move}
use Rattle.hpf_sched.specs.Moves.{EntersInOrder}
use Rattle.hpf_sched.specs.Places.{place_by}
use Rattle.hpf_sched.proofs.Finding.{place_is}

-- places that ascend from a number on
abbrev pub Ascends : ℕ → List Move → Type 0
Ascends a [] = Unit {0}
Ascends a (m ∷ list) = (a ≤ m.to) × Ascends (m.to + 1) list

lower : (a b : ℕ) (list : List Move) → a ≤ b → Ascends b list → Ascends a list
lower a b [] le h = tt
lower a b (m ∷ list) le h = (omega (arith, h.0), h.1)

at_least : (a : ℕ) (list : List Move) (k : ℕ) (d : Move) → Ascends a list → k < length list → a ≤ (get_or list k d).to
at_least a [] k d h below = absurd (omega arith)
at_least a (m ∷ list) zero d h below = h.0
at_least a (m ∷ list) (suc k) d h below = omega (arith, h.0, at_least (m.to + 1) list k d h.1 (omega arith))

ordered : (a : ℕ) (list : List Move) (i j : ℕ) (d : Move) → Ascends a list → i < j → j < length list → (get_or list i d).to < (get_or list j d).to
ordered a [] i j d h before below = absurd (omega arith)
ordered a (m ∷ list) i zero d h before below = absurd (omega arith)
ordered a (m ∷ list) zero (suc j) d h before below = omega (arith, at_least (m.to + 1) list j d h.1 (omega arith))
ordered a (m ∷ list) (suc i) (suc j) d h before below = ordered (m.to + 1) list i j d h.1 (omega arith) (omega arith)

pub in_order : (a : ℕ) (list : List Move) → Ascends a list → EntersInOrder list
in_order a list h = λ i j d before below. ordered a list i j d h before below

ascends_here : {A : Type 0} (move : A → Move) (b : Bool) (a : ℕ) (x : A) (xs : List A) → (move x).to ≡ a → Ascends (a + 1) (map move xs) → Ascends a (map move (cond b (x ∷ xs) xs))
ascends_here move true a x xs e h = rw e (omega arith, h)
ascends_here move false a x xs e h = lower a (a + 1) (map move xs) (omega arith) h

filtered_ascends : {A : Type 0} (move : A → Move) (p : A → Bool) (a : ℕ) (xs : List A) → ((k : ℕ) (d : A) → k < length xs → (move (get_or xs k d)).to ≡ a + k) → Ascends a (map move (filter p xs))
filtered_ascends move p a [] h = tt
filtered_ascends move p a (x ∷ xs) h =
    ascends_here move (p x) a x (filter p xs) (h 0 x (omega arith) ∙ omega arith) (filtered_ascends move p (a + 1) xs (λ k d below. h (suc k) d (omega arith) ∙ omega arith))

-- items of a list, each sent to its place
pub places_ascend : {A : Type 0} (same : A → A → Bool) → ((a b : A) → Decides (same a b) (a ≡ b)) → (move : A → Move) (p : A → Bool) (xs : List A) → StandOnce xs → ((x : A) → (move x).to ≡ place_by same xs x) → EntersInOrder (map move (filter p xs))
places_ascend same decides move p xs once to =
    in_order 0 (map move (filter p xs)) (filtered_ascends move p 0 xs (λ k d below.
    to (get_or xs k d) ∙ place_is same decides xs k (get_or xs k d) once (slice_get-get_or xs k d below) ∙ omega arith))

-- a filter that nothing passes
pub none_passes : {A : Type 0} (p : A → Bool) (xs : List A) → ((k : ℕ) (d : A) → k < length xs → p (get_or xs k d) ≡ false) → filter p xs ≡ []
none_passes p [] h = refl
none_passes p (x ∷ xs) h = rw (h 0 x (omega arith)) (none_passes p xs (λ k d below. h (suc k) d (omega arith)))
