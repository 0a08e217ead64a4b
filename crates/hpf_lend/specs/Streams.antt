-- What a channel carries, as a stream of values, whatever buffers it goes in. The law of a network speaks of streams.
use Rattle.std.specs.Prelude.{◌≡◌, ℕ, ◌+◌, ◌-◌, ◌^◌, ◌<◌, ℤ, pos, List, [], ◌∷◌, length, map, slice_index_or, Option, Some, None}
-- IsPrefix front whole: the second list goes on where the first one stops
pub use mathlib.Core.List.{IsPrefix}
use Rattle.hpf_lend.specs.declared.message.EndKind.{EndKind}
use Rattle.hpf_lend.specs.declared.message.Message.{Message}
use Rattle.hpf_lend.specs.declared.message.Message.TheVariants.{Frame, End}
use Rattle.hpf_lend.specs.Plain.{Home, home_of}

-- the values of frames in order, and the end behind them, if it is there
pub record Stream : Type 0 where
  pub frames : List (List ℤ)
  pub end : Option EndKind

-- the values of the frames, up to an end
abbrev pub frames_of : List Message → List (List ℤ)
frames_of [] = []
frames_of (Frame number buffer ∷ messages) = buffer.values ∷ frames_of messages
frames_of (End kind ∷ messages) = []

-- the homes of their buffers
abbrev pub homes_of : List Message → List Home
homes_of [] = []
homes_of (Frame number buffer ∷ messages) = home_of buffer ∷ homes_of messages
homes_of (End kind ∷ messages) = []

-- the first end
abbrev pub end_of : List Message → Option EndKind
end_of [] = None
end_of (Frame number buffer ∷ messages) = end_of messages
end_of (End kind ∷ messages) = Some kind

abbrev pub stream_of : List Message → Stream
stream_of messages = record { frames = frames_of messages; end = end_of messages }

-- The frames have the numbers from this one on and so many values each, and an end is the last message.
abbrev pub IsFormed : ℕ → ℕ → List Message → Type 0
IsFormed size next [] = Unit {0}
IsFormed size next (Frame number buffer ∷ messages) =
    (number ≡ next) × (next < 2 ^ 32 - 1) × (length buffer.values ≡ size) × IsFormed size (next + 1) messages
IsFormed size next (End kind ∷ messages) = messages ≡ []

-- a message without the number of its buffer
pub data Content : Type 0 where
  FrameContent : (number : ℕ) → (values : List ℤ) → Content
  EndContent : (kind : EndKind) → Content

abbrev pub content_of : Message → Content
content_of (Frame number buffer) = FrameContent number buffer.values
content_of (End kind) = EndContent kind

-- The first stream is the second one so far: its frames begin the others, and an end comes after all of them.
pub record Begins (first second : Stream) : Type 0 where
  pub front : IsPrefix first.frames second.frames
  pub whole : (kind : EndKind) → first.end ≡ Some kind → first ≡ second

-- the values at these places
abbrev pub values_at : List ℕ → List ℤ → List ℤ
values_at places values = map (λ place. slice_index_or values place (pos 0)) places

-- what a route with these places has of a stream
abbrev pub shown : List ℕ → Stream → Stream
shown places stream = record { frames = map (values_at places) stream.frames; end = stream.end }

-- each frame of a stream by a function of it
abbrev pub applied : (List ℤ → List ℤ) → Stream → Stream
applied f stream = record { frames = map f stream.frames; end = stream.end }
