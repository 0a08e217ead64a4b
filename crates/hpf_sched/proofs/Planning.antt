-- What the laws of mappings say of what goes from a processor to a processor.
use Rattle.std.proofs.Common.{◌≡◌, ℕ, zero, suc, ◌<◌, ◌==◌, Bool, true, false, cond, List, [], ◌∷◌, length, map, filter, get_or, slice_get, Some, Contains, IsTrue, ◌↔◌, ℤ, refl, sym, ap, ◌∙◌, subst, arith, inl, inr}
use Rattle.std.specs.Ordering.{int_eq}
use Rattle.std.specs.Cmp.Lexicographic.{pointwise}
use Rattle.std.proofs.lemmas.Bool.{false≢true, cases_Bool}
use Rattle.std.proofs.lemmas.Bool.Decides.{Decides-eqb}
use Rattle.std.proofs.lemmas.List.Elements.{Contains-get_or}
use Rattle.hpf_num.specs.declared.run.Run.{Run}
use Rattle.hpf_own.specs.Space.{indices, LiesIn, product, StandOnce}
use Rattle.hpf_own.specs.Lists.{IsPerm}
use Rattle.hpf_own.specs.Mapping.{PlainMapping, IsMapping}
use Rattle.hpf_own.specs.Owners.{owns, sender, sends}
use Rattle.hpf_own.specs.Held.{Part, IsMadeOf, is_held, owned_part, held_part}
use Rattle.hpf_own.specs.Places.{AreRanks, place_of}
use Rattle.hpf_own.specs.Correspondence.{ExtentsAgree, Corresponds, corresponding}
use Rattle.hpf_sched.specs.declared.step.Move.{Move}
use Rattle.hpf_sched.specs.Moves.{EntersInOrder}
use Rattle.hpf_sched.specs.Lines.{box_moves, box_side}
use Rattle.hpf_sched.specs.Transfer.{source_of, move_of, transfer}
use Rattle.hpf_sched.proofs.Finding.{same_index_decides, contains_behind}
use Rattle.hpf_sched.proofs.Meeting.{Ends, box_is}
use Rattle.hpf_sched.proofs.Entering.{places_ascend, none_passes}

-- ---- filters
filtered_here : {A : Type 0} (p : A → Bool) (b : Bool) (y : A) (xs : List A) (x : A) → p y ≡ b → (Contains (filter p xs) x → Contains xs x × (p x ≡ true)) → Contains (cond b (y ∷ filter p xs) (filter p xs)) x → Contains (y ∷ xs) x × (p x ≡ true)
filtered_here p true y xs x e rest (zero, below, is) = ((0, omega arith, is), ap p (sym is) ∙ e)
filtered_here p true y xs x e rest (suc k, below, is) = let r = rest (k, omega arith, is) in (contains_behind y xs x r.0, r.1)
filtered_here p false y xs x e rest h = let r = rest h in (contains_behind y xs x r.0, r.1)

pub is_filtered : {A : Type 0} (p : A → Bool) (xs : List A) (x : A) → Contains (filter p xs) x → Contains xs x × (p x ≡ true)
is_filtered p [] x h = absurd (omega (arith, h.1))
is_filtered p (y ∷ xs) x h = filtered_here p (p y) y xs x refl (is_filtered p xs x) h

passes_here : {A : Type 0} (p : A → Bool) (b : Bool) (y : A) (xs : List A) (x : A) → p y ≡ b → p x ≡ true → (Contains xs x → Contains (filter p xs) x) → Contains (y ∷ xs) x → Contains (cond b (y ∷ filter p xs) (filter p xs)) x
passes_here p true y xs x e pass rest (zero, below, is) = (0, omega arith, is)
passes_here p true y xs x e pass rest (suc k, below, is) = contains_behind y (filter p xs) x (rest (k, omega arith, is))
passes_here p false y xs x e pass rest (zero, below, is) = absurd (false≢true (sym e ∙ ap p is ∙ pass))
passes_here p false y xs x e pass rest (suc k, below, is) = rest (k, omega arith, is)

pub passes_filter : {A : Type 0} (p : A → Bool) (xs : List A) (x : A) → Contains xs x → p x ≡ true → Contains (filter p xs) x
passes_filter p [] x h pass = absurd (omega (arith, h.1))
passes_filter p (y ∷ xs) x h pass = passes_here p (p y) y xs x refl pass (λ c. passes_filter p xs x c pass) h

lies_length : (bounds : List Run) (index : List ℤ) → LiesIn bounds index → length index ≡ length bounds
lies_length [] [] h = refl
lies_length [] (i ∷ index) h = absurd h
lies_length (run ∷ bounds) [] h = absurd h
lies_length (run ∷ bounds) (i ∷ index) h = ap suc (lies_length bounds index h.1)

-- the laws of the crate below that are used
pub record Laws : Type 0 where
  pub only : (bounds : List Run) (k : ℕ) (d : List ℤ) → k < length (indices bounds) → LiesIn bounds (get_or (indices bounds) k d)
  pub every : (bounds : List Run) (index : List ℤ) → LiesIn bounds index → Contains (indices bounds) index
  pub corresponds : (from to : List Run) (perm : List ℕ) (i : List ℤ) → IsPerm perm → length i ≡ length perm → Corresponds from to perm (corresponding from to perm i) i
  pub within : (from to : List Run) (perm : List ℕ) (i : List ℤ) → IsPerm perm → ExtentsAgree from to perm → LiesIn to i → LiesIn from (corresponding from to perm i)
  pub exactly : (m : PlainMapping) (p : ℕ) (index : List ℤ) → IsMapping m → p < product m.procs → LiesIn m.bounds index
      → (sender m index ≡ p) ↔ (IsTrue (sends m p) × IsTrue (owns m p index))
  pub part : (part : Part) (sides : List (List ℤ)) (index : List ℤ) (ranks : List ℕ) → IsMadeOf part sides
      → AreRanks sides index ranks → slice_get part.indices (place_of (map length sides) ranks) ≡ Some index

-- two mappings under a permutation, and a processor of each
pub record Pair (from to : PlainMapping) (perm : List ℕ) (p q : ℕ) : Type 0 where
  pub laws : Laws
  pub before : IsMapping from
  pub receiving : IsMapping to
  pub perm_is : IsPerm perm
  pub agree : ExtentsAgree from.bounds to.bounds perm
  pub below : p < product from.procs

module _ (from to : PlainMapping) (perm : List ℕ) (p q : ℕ) (pair : Pair from to perm p q) where
  abbrev src : List ℤ → List ℤ
  src i = source_of from to perm i

  -- what is held lies in the bounds
  pub lies : (i : List ℤ) → Contains (held_part to q).indices i → LiesIn to.bounds i
  lies i h =
      let c = (is_filtered (is_held to q) (indices to.bounds) i h).0 in
      subst (LiesIn to.bounds) c.2 (pair.laws.only to.bounds c.0 i c.1)

  pub source_lies : (i : List ℤ) → Contains (held_part to q).indices i → LiesIn from.bounds (src i)
  source_lies i h = pair.laws.within from.bounds to.bounds perm i pair.perm_is pair.agree (lies i h)

  pub source_corresponds : (i : List ℤ) → Contains (held_part to q).indices i → Corresponds from.bounds to.bounds perm (src i) i
  source_corresponds i h = pair.laws.corresponds from.bounds to.bounds perm i pair.perm_is (lies_length to.bounds i (lies i h) ∙ pair.agree.receiving)

  pub sent_is : (i : List ℤ) → Contains (held_part to q).indices i → IsTrue (sends from p) → (sender from (src i) ≡ p) ↔ Contains (owned_part from p).indices (src i)
  sent_is i h sent =
      let law = pair.laws.exactly from p (src i) pair.before pair.below (source_lies i h) in (
        λ e. passes_filter (owns from p) (indices from.bounds) (src i) (pair.laws.every from.bounds (src i) (source_lies i h)) (law.0 e).1,
        λ c. law.1 (sent, (is_filtered (owns from p) (indices from.bounds) (src i) c).1),
      )

  ends : (os hs : List (List ℤ)) → IsTrue (sends from p) → IsMadeOf (owned_part from p) os → IsMadeOf (held_part to q) hs → StandOnce (owned_part from p).indices → StandOnce (held_part to q).indices
      → Ends from to perm p (owned_part from p) (held_part to q) os hs
  ends os hs sent made there once held_once = record {
    perm_is = pair.perm_is;
    owned_made = made;
    held_made = there;
    owned_rank = sym made.rank ∙ pair.agree.before;
    held_rank = sym there.rank ∙ pair.agree.receiving;
    owned_once = once;
    held_once = held_once;
    correspond = source_corresponds;
    sent = λ i h. sent_is i h sent;
    place = pair.laws.part;
  }

  -- what is made dimension by dimension is what goes
  pub box_goes : (os hs : List (List ℤ)) → IsTrue (sends from p) → IsMadeOf (owned_part from p) os → IsMadeOf (held_part to q) hs → StandOnce (owned_part from p).indices → StandOnce (held_part to q).indices
      → box_moves (box_side from.bounds to.bounds perm os hs) 0 (length perm) ≡ transfer from to perm p q
  box_goes os hs sent made there once held_once =
      box_is from to perm p (owned_part from p) (held_part to q) os hs (ends os hs sent made there once held_once)

  -- nothing goes from a processor that doesn't send
  pub none_goes : sends from p ≡ false → transfer from to perm p q ≡ []
  none_goes silent =
      ap (map (move_of from to perm p q)) (none_passes (λ i. sender from (src i) == p) (held_part to q).indices (λ k d below.
      let i = get_or (held_part to q).indices k d in
      let here = Contains-get_or (held_part to q).indices k d below in
      elim (cases_Bool (sender from (src i) == p)) [
        | inl is ↦ absurd (false≢true (sym silent ∙ ((pair.laws.exactly from p (src i) pair.before pair.below (source_lies i here)).0 ((Decides-eqb (sender from (src i)) p).0 is)).0))
        | inr other ↦ other
      ]))

  pub goes_in_order : StandOnce (held_part to q).indices → EntersInOrder (transfer from to perm p q)
  goes_in_order once = places_ascend (pointwise int_eq) same_index_decides (move_of from to perm p q) (λ i. sender from (src i) == p) (held_part to q).indices once (λ i. refl)

  -- the same of what the code has in hand
  pub planned : (before bounds : List Run) (owned held : Part) (os hs : List (List ℤ)) (items : List Move) → before ≡ from.bounds → bounds ≡ to.bounds → owned ≡ owned_part from p → held ≡ held_part to q
      → sends from p ≡ true → IsMadeOf owned os → IsMadeOf held hs → StandOnce owned.indices → StandOnce held.indices
      → items ≡ box_moves (box_side before bounds perm os hs) 0 (length perm) → items ≡ transfer from to perm p q
  planned before bounds owned held os hs items b t o h sent made there once held_once is =
      is ∙ ap (λ (bs : List Run). box_moves (box_side bs bounds perm os hs) 0 (length perm)) b
      ∙ ap (λ (bs : List Run). box_moves (box_side from.bounds bs perm os hs) 0 (length perm)) t
      ∙ box_goes os hs sent (subst (λ (part : Part). IsMadeOf part os) o made) (subst (λ (part : Part). IsMadeOf part hs) h there)
      (subst (λ (part : Part). StandOnce part.indices) o once) (subst (λ (part : Part). StandOnce part.indices) h held_once)
