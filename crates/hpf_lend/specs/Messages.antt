-- Lists of messages.
use Rattle.std.specs.Prelude.{◌≡◌, ℕ, ◌+◌, List, [], ◌∷◌}
use Rattle.hpf_lend.specs.declared.message.Message.{Message}
use Rattle.hpf_lend.specs.declared.message.Message.TheVariants.{Frame, End}
use Rattle.hpf_lend.specs.Plain.{Plain}

-- the buffers of the frames
abbrev pub lent : List Message → List Plain
lent [] = []
lent (Frame number buffer ∷ ms) = buffer ∷ lent ms
lent (End kind ∷ ms) = lent ms

-- an end is the last message
abbrev pub IsClosed : List Message → Type 0
IsClosed [] = Unit {0}
IsClosed (Frame number buffer ∷ ms) = IsClosed ms
IsClosed (End kind ∷ ms) = ms ≡ []

-- how many ends there are
abbrev pub ends : List Message → ℕ
ends [] = 0
ends (Frame number buffer ∷ ms) = ends ms
ends (End kind ∷ ms) = 1 + ends ms
