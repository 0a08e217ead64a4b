-- What a lender is seen as, and what holds of it alone.
use Rattle.std.specs.Prelude.{◌≡◌, ℕ, ◌+◌, ◌≤◌, Bool, true, false, List, ◌++◌, map, length, Option}
use mathlib.Core.List.{IsPrefix}
use denote.RawPtr.{Ptr}
use Rattle.std.specs.declared.alloc.Global.{Global}
use Rattle.rtrb.specs.Shared.{Names}
use Rattle.rtrb.specs.declared.end.End.{End}
use Rattle.hpf_lend.specs.declared.message.Message.{Message}
use Rattle.hpf_lend.specs.Plain.{Plain, home_of, home_with}
use Rattle.hpf_lend.specs.Shelf.{times, away, homes, IsShelf}
use Rattle.hpf_lend.specs.Messages.{lent, IsClosed}

-- which ring an end is of
pub record Ring : Type 0 where
  pub words : Ptr
  pub slots : Ptr
  pub names : Names
  pub heap : Global

abbrev pub ring_of : {T P : Type 0} → End T Global P → Ring
ring_of e = record { words = e.words; slots = e.slots; names = e.names; heap = e.heap }

pub record Lending : Type 0 where
  pub size : ℕ  -- how many values each buffer has
  pub shelf : List (Option Plain)  -- by number, the buffer that is at home
  pub out : List ℕ  -- the numbers of those that are out, in the order in which they were lent
  pub sent : List Message  -- all that was sent
  pub kept : List Message  -- the last of these, which the ring hasn't taken
  pub taken : List Plain  -- all that was taken back
  pub known : List Plain  -- what is known to wait
  pub strayed : Bool
  pub fresh : Bool  -- since it has met, no call that takes has answered Waits
  pub forward : Ring
  pub back : Ring

-- What holds of a lender, whatever the other end does.
pub record IsLender (x : Lending) : Type 0 where
  pub some : 1 ≤ length x.shelf
  pub few : length x.shelf ≤ 8
  pub shelved : IsShelf x.size 0 x.shelf
  -- each buffer is at home or out, and once only
  pub places : (k : ℕ) → times k x.out ≡ away 0 x.shelf k
  pub counted : length x.out + homes x.shelf ≡ length x.shelf
  -- what was taken back is what was lent first, and the rest is out
  pub straight : x.strayed ≡ false
      → map home_of (lent x.sent) ≡ map home_of x.taken ++ map (home_with x.size) x.out
  pub astray : x.strayed ≡ true → IsPrefix (map home_of x.taken) (map home_of (lent x.sent)) → ⊥
  -- what is kept was sent last, and what of it was lent is out
  pub last : (front : List Message) × (x.sent ≡ front ++ x.kept)
  pub held : length (lent x.kept) ≤ length x.out
  -- after an end nothing is sent
  pub closed : IsClosed x.sent

-- the numbers of the buffers that were lent, and of those taken back, in order
abbrev pub number_of : Plain → ℕ
number_of b = b.number

abbrev pub numbers_lent : Lending → List ℕ
numbers_lent x = map number_of (lent x.sent)

abbrev pub numbers_taken : Lending → List ℕ
numbers_taken x = map number_of x.taken
