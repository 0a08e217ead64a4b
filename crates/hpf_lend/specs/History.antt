-- The lending law, over a history of what one lender lent and took back.
use Rattle.std.specs.Prelude.{◌≡◌, ℕ, ◌+◌, ◌<◌, ◌≤◌, List, [], ◌∷◌, ◌++◌, length, ◌⊎◌}
use mathlib.Core.List.{IsPrefix}
use Rattle.hpf_lend.specs.Shelf.{times}
use Rattle.hpf_lend.specs.Lending.{Lending, numbers_lent, numbers_taken}

-- one buffer was lent, or one came home, by its number
pub data Event : Type 0 where
  Lent : ℕ → Event
  Back : ℕ → Event

-- the numbers of the buffers that were lent, and of those taken back, in order
abbrev pub lent_in : List Event → List ℕ
lent_in [] = []
lent_in (Lent k ∷ events) = k ∷ lent_in events
lent_in (Back k ∷ events) = lent_in events

abbrev pub back_in : List Event → List ℕ
back_in [] = []
back_in (Lent k ∷ events) = back_in events
back_in (Back k ∷ events) = k ∷ back_in events

-- a buffer is at home: it was lent as often as it was taken back
abbrev pub IsHome : List ℕ → List ℕ → ℕ → Type 0
IsHome lent back k = times k lent ≡ times k back

-- Each buffer was lent as often as it was taken back, or once more, and is then out. What was taken back is what was
-- lent first, and at most n are out.
pub record Lawful (n : ℕ) (lent back : List ℕ) : Type 0 where
  pub home_or_out : (k : ℕ) → k < n → IsHome lent back k ⊎ (times k lent ≡ times k back + 1)
  pub no_other : (k : ℕ) → n ≤ k → times k lent ≡ times k back
  pub in_order : IsPrefix back lent
  pub few : length lent ≤ length back + n

-- A lent buffer is the one at home with the least number.
pub record IsLeastHome (n : ℕ) (lent back : List ℕ) (k : ℕ) : Type 0 where
  pub numbered : k < n
  pub home : IsHome lent back k
  pub least : (j : ℕ) → j < k → IsHome lent back j → ⊥

-- the next event may follow those before
abbrev pub MayFollow : ℕ → List Event → Event → Type 0
MayFollow n before (Lent k) = IsLeastHome n (lent_in before) (back_in before) k
MayFollow n before (Back k) = Unit {0}

-- The law holds after each event, and each buffer that is lent is the least at home.
abbrev pub IsLegalAfter : ℕ → List Event → List Event → Type 0
IsLegalAfter n before [] = Lawful n (lent_in before) (back_in before)
IsLegalAfter n before (e ∷ events) =
    Lawful n (lent_in before) (back_in before) × MayFollow n before e × IsLegalAfter n (before ++ e ∷ []) events

abbrev pub IsLegal : ℕ → List Event → Type 0
IsLegal n events = IsLegalAfter n [] events

-- A history of a lender that hasn't strayed: what it lent and took back so far, event by event, and the law held
-- after each.
pub record IsHistory (events : List Event) (x : Lending) : Type 0 where
  pub lent : lent_in events ≡ numbers_lent x
  pub back : back_in events ≡ numbers_taken x
  pub legal : IsLegal (length x.shelf) events

-- what a call did goes on with any history by one event
abbrev pub GoesOnWith : Event → Lending → Lending → Type 0
GoesOnWith event old new = (events : List Event) → IsHistory events old → IsHistory (events ++ event ∷ []) new

-- it adds nothing to a history
abbrev pub KeepsHistory : Lending → Lending → Type 0
KeepsHistory old new = (events : List Event) → IsHistory events old → IsHistory events new
