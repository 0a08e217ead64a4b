-- The two ends of a channel as the workers have them, one end an entry of its worker and the other an exit of another.
use Rattle.std.specs.Prelude.{◌≡◌, ℕ, ◌+◌, ◌<◌, ◌≤◌, Bool, true, false, List, [], ◌∷◌, ◌++◌, map, take, length}
use Rattle.std.specs.List.{AllByRecursion}
use Rattle.hpf_lend.specs.declared.message.Message.{Message}
use Rattle.hpf_lend.specs.Plain.{Home, home_of}
use Rattle.hpf_lend.specs.Streams.{IsPrefix, frames_of, homes_of}
use Rattle.hpf_lend.specs.Lending.{Lending}
use Rattle.hpf_lend.specs.Borrowing.{Borrowing}

-- A borrower's end: where its route leads in the held part, what it received and gave back, what it knows to wait for
-- it, how many frames were gathered into the part, and whether its worker took a message that is not well formed.
pub record Entry : Type 0 where
  pub places : List ℕ
  pub received : List Message
  pub returned : List Home
  pub knows : List Message
  pub gathered : ℕ
  pub lost : Bool

-- A lender's end: the places in the owned part that its route takes, how many buffers it has, what it sent and took
-- back, which homes it knows to wait for it, and whether it has strayed.
pub record Exit : Type 0 where
  pub places : List ℕ
  pub buffers : ℕ
  pub sent : List Message
  pub taken_back : List Home
  pub knows : List Home
  pub lost : Bool

-- A frame is gathered once its buffer was given back.
abbrev pub entry_of : List ℕ → Bool → Borrowing → Entry
entry_of places lost y = record {
  places = places;
  received = y.received;
  returned = map home_of y.returned;
  knows = y.known;
  gathered = length y.returned;
  lost = lost;
}

abbrev pub exit_of : List ℕ → Lending → Exit
exit_of places x = record {
  places = places;
  buffers = length x.shelf;
  sent = x.sent;
  taken_back = map home_of x.taken;
  knows = map home_of x.known;
  lost = x.strayed;
}

-- The buffers have different numbers below n.
abbrev pub AreBuffers : ℕ → List Home → Type 0
AreBuffers n [] = Unit {0}
AreBuffers n (home ∷ homes) =
    (home.number < n) × AllByRecursion (λ other. ¬ (home.number ≡ other.number)) homes × AreBuffers n homes

-- Of n buffers those that are out were lent last, in this order, each once; the others came back in the order of
-- lending.
pub record IsLending (n : ℕ) (lent back : List Home) : Type 0 where
  pub out : List Home
  pub in_order : back ++ out ≡ lent
  pub apart : AreBuffers n out
  pub few : length out ≤ n

-- What a lender alone keeps of its exit.
pub record LendsAt (exit : Exit) : Type 0 where
  pub lending : exit.lost ≡ false → IsLending exit.buffers (homes_of exit.sent) exit.taken_back
  pub strayed : exit.lost ≡ true → ¬ IsPrefix exit.taken_back (homes_of exit.sent)

-- What a borrower alone keeps of its entry: it gave back what it received, in order, but for a message in hand.
pub record BorrowsAt (entry : Entry) : Type 0 where
  pub are_there : entry.gathered ≤ length (frames_of entry.received)
  pub hand : length entry.received ≤ entry.gathered + 1
  pub returned : entry.returned ≡ take entry.gathered (homes_of entry.received)

-- The two ends of one channel: what was received begins what was sent, and what was taken back begins what was
-- returned.
pub record AreJoined (exit : Exit) (entry : Entry) : Type 0 where
  pub received : IsPrefix entry.received exit.sent
  pub taken_back : IsPrefix exit.taken_back entry.returned

-- The two ends of one channel have met: each knows of all that waits for it, which is at most a message for each
-- buffer and an end one way, and the buffers the other way.
pub record KnowAll (exit : Exit) (entry : Entry) : Type 0 where
  pub messages : entry.received ++ entry.knows ≡ exit.sent
  pub homes : exit.taken_back ++ exit.knows ≡ entry.returned
  pub few_messages : length entry.knows ≤ exit.buffers + 1
  pub few_homes : length exit.knows ≤ exit.buffers

-- An entry has gone on: it received some of what it knew to wait, or nothing, and returned what it had returned and
-- maybe more.
pub record EntryGoesOn (old new : Entry) : Type 0 where
  pub places : new.places ≡ old.places
  pub more : IsPrefix old.received new.received
  pub received : new.received ++ new.knows ≡ old.received ++ old.knows
  pub returned : IsPrefix old.returned new.returned

-- An exit has gone on: it sent what it had sent and maybe more, and took back some of what it knew to wait, or nothing.
pub record ExitGoesOn (old new : Exit) : Type 0 where
  pub places : new.places ≡ old.places
  pub buffers : new.buffers ≡ old.buffers
  pub sent : IsPrefix old.sent new.sent
  pub more : IsPrefix old.taken_back new.taken_back
  pub taken_back : new.taken_back ++ new.knows ≡ old.taken_back ++ old.knows
