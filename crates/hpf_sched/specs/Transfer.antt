-- What goes from a processor of one mapping to a processor of another. (This project defines it.)
use Rattle.std.specs.Prelude.{ℕ, ◌==◌, List, map, filter, ℤ}
use Rattle.std.specs.Ordering.{int_eq}
use Rattle.std.specs.Cmp.Lexicographic.{pointwise}
use Rattle.hpf_own.specs.Lists.{IsPerm}
use Rattle.hpf_own.specs.Mapping.{PlainMapping, IsMapping}
use Rattle.hpf_own.specs.Owners.{sender}
use Rattle.hpf_own.specs.Held.{owned_part, held_part}
use Rattle.hpf_own.specs.Correspondence.{ExtentsAgree, corresponding}
use Rattle.hpf_sched.specs.declared.step.Move.{Move}
use Rattle.hpf_sched.specs.Places.{place_by}

-- two mappings whose arrays correspond under a permutation
pub record IsHop (from to : PlainMapping) (perm : List ℕ) : Type 0 where
  pub before : IsMapping from
  pub receiving : IsMapping to
  pub permutes : IsPerm perm
  pub agree : ExtentsAgree from.bounds to.bounds perm

-- the place of an index in a part, from 0
abbrev pub place_in : List (List ℤ) → List ℤ → ℕ
place_in part index = place_by (pointwise int_eq) part index

-- the element of the array before from which an element of the receiving array comes
abbrev pub source_of : PlainMapping → PlainMapping → List ℕ → List ℤ → List ℤ
source_of from to perm index = corresponding from.bounds to.bounds perm index

-- the elements that processor q of the receiving mapping holds and whose source has the sender p, in element order
abbrev pub arrivals : PlainMapping → PlainMapping → List ℕ → ℕ → ℕ → List (List ℤ)
arrivals from to perm p q = filter (λ index. sender from (source_of from to perm index) == p) (held_part to q).indices

-- the place of an element's source in what p owns, and the element's own place in what q holds
abbrev pub move_of : PlainMapping → PlainMapping → List ℕ → ℕ → ℕ → List ℤ → Move
move_of from to perm p q index = record {
  from = place_in (owned_part from p).indices (source_of from to perm index);
  to = place_in (held_part to q).indices index;
}

-- what goes from p to q
abbrev pub transfer : PlainMapping → PlainMapping → List ℕ → ℕ → ℕ → List Move
transfer from to perm p q = map (move_of from to perm p q) (arrivals from to perm p q)
