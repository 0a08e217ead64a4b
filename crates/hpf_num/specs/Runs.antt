-- Ascending lists of different integers, and their runs. (This project defines them.)
use Rattle.std.specs.Prelude.{◌≡◌, ℕ, ◌-◌, ◌<◌, ◌≤◌, Bool, true, false, not, ◌&&◌, List, filter, All, AllPairs, length, get_or, slice_get, Some, ℤ, pos, neg_ℤ, ◌+ℤ◌, ◌-ℤ◌, ◌*ℤ◌, ◌≤ℤ◌, ◌<ℤ◌}
use Rattle.std.specs.List.{list_any}
use Rattle.std.specs.Int.RustNames.{int_le}
use Rattle.std.specs.Ordering.{int_eq}
use Rattle.hpf_num.specs.declared.run.Run.{Run}
use Rattle.hpf_num.specs.Run.{integers, LiesWithin}
use Rattle.hpf_num.specs.Limits.{integer_limit}

-- the integers that this project's limits allow for subscripts, from -(2^31 - 1) to 2^31 - 1
pub record IsSmall (i : ℤ) : Type 0 where
  pub least : neg_ℤ (pos integer_limit) ≤ℤ i
  pub greatest : i ≤ℤ pos integer_limit

-- a run that lies within them
pub record IsInLimits (run : Run) : Type 0 where
  pub least : neg_ℤ (pos integer_limit) ≤ℤ run.low
  pub greatest : run.high ≤ℤ pos integer_limit

-- such integers, each above those before it
pub record AreMembers (members : List ℤ) : Type 0 where
  pub ascending : AllPairs (λ i j. i <ℤ j) members
  pub small : All IsSmall members

-- whether an integer is a member
abbrev pub has : List ℤ → ℤ → Bool
has members i = list_any (λ j. int_eq j i) members

-- the members that are members of another list too
abbrev pub common : List ℤ → List ℤ → List ℤ
common members others = filter (has others) members

-- whether an integer lies at most so far below or above another
abbrev pub is_near : ℕ → ℕ → ℤ → ℤ → Bool
is_near low high j i = int_le (j -ℤ pos low) i && int_le i (j +ℤ pos high)

-- the integers of a run that lie so near to a member
abbrev pub widened : List ℤ → ℕ → ℕ → Run → List ℤ
widened members low high bounds = filter (λ i. list_any (λ j. is_near low high j i) members) (integers bounds)

-- the integers of a run of which a linear image is a member
abbrev pub preimage : List ℤ → ℤ → ℤ → Run → List ℤ
preimage members a b bounds = filter (λ i. has members (a *ℤ i +ℤ b)) (integers bounds)

-- the members with which a run begins: the integer before isn't one
abbrev pub starts : List ℤ → List ℤ
starts members = filter (λ i. not (has members (i -ℤ pos 1))) members

-- the run with this number, from 0: it begins with the start of that number, has members only, and none follows it
pub record IsRunAt (members : List ℤ) (number : ℕ) (run : Run) : Type 0 where
  pub begins : slice_get (starts members) number ≡ Some run.low
  pub order : run.low ≤ℤ run.high
  pub within : (i : ℤ) → LiesWithin run i → has members i ≡ true
  pub ends : has members (run.high +ℤ pos 1) ≡ false

-- a run begins at this place, the one with this number
pub record IsStart (members : List ℤ) (number place : ℕ) : Type 0 where
  pub below : place < length members
  pub start : slice_get (starts members) number ≡ Some (get_or members place (pos 0))

-- up to this place members follow the one at an earlier place, one after another, and no further
pub record IsLast (members : List ℤ) (first last : ℕ) : Type 0 where
  pub order : first ≤ last
  pub below : last < length members
  pub follow : (k : ℕ) → first ≤ k → k ≤ last → get_or members k (pos 0) ≡ (get_or members first (pos 0) +ℤ pos (k - first))
  pub ends : has members (get_or members last (pos 0) +ℤ pos 1) ≡ false
