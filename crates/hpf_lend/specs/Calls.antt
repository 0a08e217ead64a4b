-- What each call on an end does to it. An equation `new ≡ record old { .. }` says that all else stays; where it names
-- `new.kept` or `new.known`, that part may be otherwise.
use Rattle.std.specs.Prelude.{◌≡◌, ℕ, ◌<◌, ◌≤◌, true, false, List, [], ◌∷◌, ◌++◌, length, Option, Some, None, ◌⊎◌}
use Rattle.hpf_lend.specs.declared.message.Message.{Message}
use Rattle.hpf_lend.specs.declared.message.Message.TheVariants.{Frame, End}
use Rattle.hpf_lend.specs.declared.message.EndKind.{EndKind}
use Rattle.hpf_lend.specs.declared.message.Answer.{Answer}
use Rattle.hpf_lend.specs.declared.message.Answer.TheVariants.{Done, Waits}
use Rattle.hpf_lend.specs.Plain.{Plain, home_of, home_with}
use Rattle.hpf_lend.specs.Messages.{lent}
use Rattle.hpf_lend.specs.Shelf.{least, without_least, with_buffer}
use Rattle.hpf_lend.specs.Lending.{Lending}
use Rattle.hpf_lend.specs.Borrowing.{Borrowing}

abbrev pub MatchAnswer : Answer → Type 0 → Type 0 → Type 0
MatchAnswer Done P Q = P
MatchAnswer Waits P Q = Q

-- Of a frame in hand a fact holds; an end, or nothing, is no frame.
abbrev pub IsFrameAnd : Option Message → (ℕ → Plain → Type 0) → Type 0
IsFrameAnd None P = ⊥
IsFrameAnd (Some (Frame number buffer)) P = P number buffer
IsFrameAnd (Some (End kind)) P = ⊥

-- ---- the lender

-- The buffer at home with the least number was sent as this frame.
pub record Lends (old new : Lending) (frame : ℕ) (buffer : Plain) : Type 0 where
  pub first : least old.shelf ≡ Some buffer
  pub size : length buffer.values ≡ old.size
  pub change : new ≡ record old {
    shelf = without_least old.shelf;
    out = old.out ++ buffer.number ∷ [];
    sent = old.sent ++ Frame frame buffer ∷ [];
    kept = new.kept;
  }

pub record Ends (old new : Lending) (kind : EndKind) : Type 0 where
  pub change : new ≡ record old { sent = old.sent ++ End kind ∷ []; kept = new.kept }

-- The buffer that was out longest came home, with its own length.
pub record ComesHome (old new : Lending) (buffer : Plain) : Type 0 where
  pub longest : old.out ≡ buffer.number ∷ new.out
  pub size : length buffer.values ≡ old.size
  pub change : new ≡ record old {
    shelf = with_buffer old.shelf buffer;
    out = new.out;
    taken = old.taken ++ buffer ∷ [];
    known = new.known;
  }

-- What came isn't the buffer that was out longest, with its own length. No buffer came home.
pub record Strays (old new : Lending) (buffer : Plain) : Type 0 where
  pub other : (rest : List ℕ) (longest : ℕ) → old.out ≡ longest ∷ rest → home_of buffer ≡ home_with old.size longest → ⊥
  pub change : new ≡ record old { taken = old.taken ++ buffer ∷ []; known = new.known; strayed = true }

-- every buffer that is out is still kept here
abbrev pub KeepsAll : Lending → Type 0
KeepsAll x = length x.out ≤ length (lent x.kept)

-- Something was taken back: the first that was known, or, where nothing was known and the ends haven't just met, what
-- the ring then had.
pub record TakesBack (old new : Lending) : Type 0 where
  pub straight : old.strayed ≡ false
  pub buffer : Plain
  pub next : (old.known ≡ buffer ∷ new.known) ⊎ ((old.known ≡ []) × (old.fresh ≡ false))
  pub result : ComesHome old new buffer ⊎ Strays old new buffer

-- Nothing was taken back: the lender may take nothing, and all stays; or it knew of nothing that waits, and found
-- nothing.
pub data LenderWaits (old new : Lending) : Type 0 where
  HoldsBack : (KeepsAll old ⊎ (old.strayed ≡ true)) → new ≡ old → LenderWaits old new
  NothingHome : old.known ≡ [] → new ≡ record old { fresh = false } → LenderWaits old new

-- ---- the borrower

pub record Takes (old new : Borrowing) (message : Message) : Type 0 where
  pub next : (old.known ≡ message ∷ new.known) ⊎ ((old.known ≡ []) × (old.fresh ≡ false))
  pub change : new ≡ record old { received = old.received ++ message ∷ []; hand = Some message; known = new.known }

-- no more can be kept
abbrev pub IsFull : Borrowing → Type 0
IsFull y = y.buffers < length y.kept

-- Nothing was taken: no more could be kept, and all stays; or the borrower knew of nothing that waits, and found
-- nothing.
pub data BorrowerWaits (old new : Borrowing) : Type 0 where
  HasNoRoom : IsFull old → new ≡ old → BorrowerWaits old new
  NothingCame : old.known ≡ [] → new ≡ record old { fresh = false } → BorrowerWaits old new

abbrev pub GivesBack : Borrowing → Borrowing → ℕ → Plain → Type 0
GivesBack old new number buffer = new ≡ record old { hand = None; returned = old.returned ++ buffer ∷ []; kept = new.kept }
