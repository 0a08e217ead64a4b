-- By what the subscripts of two arrays differ.
use Rattle.std.proofs.Common.{◌≡◌, ℕ, ◌-◌, ◌^◌, ◌<◌, ◌≤◌, List, [], length, map, take, get_or, slice_get, Some, Result, Ok, Err, IfOk, ℤ, pos, neg_ℤ, ◌-ℤ◌, ◌≤ℤ◌, unsigned_abs, to_z, of_z, to_z-of_z, w64, FitsSigned, sym, ap, ◌∙◌, arith}
use Rattle.std.proofs.lemmas.Int.{ints}
use Rattle.std.proofs.lemmas.Option.{get_or_from_slice_get, slice_get_within}
use Rattle.hpf_num.specs.declared.run.Run.{Run}
use Rattle.hpf_own.specs.Lists.{IsPerm}
use Rattle.hpf_own.specs.Mapping.{AreInLimits}
use Rattle.hpf_own.specs.KeptLists.{no_run as no_bound}
use Rattle.hpf_own.specs.Space.{product}
use Rattle.hpf_sched.specs.declared.step.Move.{Move}
use Rattle.hpf_sched.specs.Lines.{side_moves, box_side}
use Rattle.hpf_sched.proofs.Meeting.{entry_within}
use Rattle.hpf_num.specs.Limits.{integer_limit}

-- what holds of what came holds of what it implies
pub if_ok : {A E : Type 0} (P Q : A → Type 0) (r : Result A E) → ((v : A) → P v → Q v) → IfOk r P → IfOk r Q
if_ok P Q (Ok v) f h = f v h
if_ok P Q (Err e) f h = h

-- a dimension of the array before
pub entry : (xs perm : List ℕ) (d : ℕ) → xs ≡ perm → IsPerm perm → d < length perm → (1 ≤ get_or xs d 0) × (get_or xs d 0 - 1 < length perm)
entry xs perm d same is below = rw same (entry_within perm d is below)

-- lower bounds are small
pub record IsSmallLow (low : ℤ) : Type 0 where
  pub least : neg_ℤ (pos integer_limit) ≤ℤ low
  pub greatest : low ≤ℤ pos integer_limit

between_is : (low high : ℤ) → neg_ℤ (pos integer_limit) ≤ℤ low → high ≤ℤ pos integer_limit → low ≤ℤ high → IsSmallLow low
between_is low high a b c = record { least = a; greatest = omega (arith, ints) }

pub small_low : (bounds : List Run) (e : ℕ) (run : Run) → AreInLimits bounds → slice_get bounds e ≡ Some run → run.low ≤ℤ run.high → IsSmallLow run.low
small_low bounds e run limits at order =
    let within = slice_get_within bounds e run at in
    let is : get_or bounds e run ≡ run = get_or_from_slice_get bounds e run run at in
    between_is run.low run.high (rw is at (limits.least e run within)) (rw is at (limits.greatest e run within)) order

-- their difference fits a word
pub record IsShift (a b : ℤ) : Type 0 where
  pub first : FitsSigned w64 a
  pub second : FitsSigned w64 b
  pub shift : FitsSigned w64 (a -ℤ b)
  pub small : unsigned_abs (a -ℤ b) ≤ 2 ^ 32

shift_of : (a b : ℤ) → neg_ℤ (pos integer_limit) ≤ℤ a → a ≤ℤ pos integer_limit → neg_ℤ (pos integer_limit) ≤ℤ b → b ≤ℤ pos integer_limit → IsShift a b
shift_of a b h k l m = record { first = omega (arith, ints); second = omega (arith, ints); shift = omega (arith, ints); small = omega (arith, ints) }

pub shift_fits : (a b : ℤ) → IsSmallLow a → IsSmallLow b → IsShift a b
shift_fits a b h k = shift_of a b h.least h.greatest k.least k.greatest

-- as the code has it
pub inner_is : (a b : ℤ) → IsShift a b → (to_z w64 (of_z w64 a) -ℤ to_z w64 (of_z w64 b)) ≡ a -ℤ b
inner_is a b h = ap (λ (x : ℤ). x -ℤ to_z w64 (of_z w64 b)) (to_z-of_z h.first) ∙ ap (λ (x : ℤ). a -ℤ x) (to_z-of_z h.second)

pub shift_is : (a b : ℤ) → IsShift a b → to_z w64 (of_z w64 (to_z w64 (of_z w64 a) -ℤ to_z w64 (of_z w64 b))) ≡ a -ℤ b
shift_is a b h = ap (λ (x : ℤ). to_z w64 (of_z w64 x)) (inner_is a b h) ∙ to_z-of_z h.shift

-- the moves along one dimension are those of the box
pub side_is : (before bounds : List Run) (xs perm : List ℕ) (os hs : List (List ℤ)) (d : ℕ) (ro rh : List ℤ) (a b : Run) (shift : ℤ) (from to : ℕ) (list : List Move) → xs ≡ perm
    → slice_get os (get_or xs d 0 - 1) ≡ Some ro → slice_get hs d ≡ Some rh → slice_get before (get_or xs d 0 - 1) ≡ Some a → slice_get bounds d ≡ Some b → shift ≡ a.low -ℤ b.low
    → from ≡ product (take (get_or xs d 0 - 1) (map length os)) → to ≡ product (take d (map length hs)) → list ≡ side_moves ro rh shift from to → list ≡ box_side before bounds perm os hs d
side_is before bounds xs perm os hs d ro rh a b shift from to list same o h x y s f t is =
    let e = get_or xs d 0 - 1 in
    let owned : ro ≡ get_or os e [] = sym (get_or_from_slice_get os e ro [] o) in
    let held : rh ≡ get_or hs d [] = sym (get_or_from_slice_get hs d rh [] h) in
    let low : a ≡ get_or before e no_bound = sym (get_or_from_slice_get before e a no_bound x) in
    let other : b ≡ get_or bounds d no_bound = sym (get_or_from_slice_get bounds d b no_bound y) in
    let far : shift ≡ (get_or before e no_bound).low -ℤ (get_or bounds d no_bound).low = s ∙ ap (λ (r : Run). r.low -ℤ b.low) low ∙ ap (λ (r : Run). (get_or before e no_bound).low -ℤ r.low) other in
    is ∙ ap (λ (l : List ℤ). side_moves l rh shift from to) owned ∙ ap (λ (l : List ℤ). side_moves (get_or os e []) l shift from to) held
    ∙ ap (λ (z : ℤ). side_moves (get_or os e []) (get_or hs d []) z from to) far
    ∙ ap (λ (n : ℕ). side_moves (get_or os e []) (get_or hs d []) ((get_or before e no_bound).low -ℤ (get_or bounds d no_bound).low) n to) f
    ∙ ap (λ (n : ℕ). side_moves (get_or os e []) (get_or hs d []) ((get_or before e no_bound).low -ℤ (get_or bounds d no_bound).low) (product (take e (map length os))) n) t
    ∙ ap (λ (p : List ℕ). box_side before bounds p os hs d) same
