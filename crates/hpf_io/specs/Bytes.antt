-- Bytes that move between an object of the outside and its caller. What an object does not tell is `None`.
use Rattle.std.specs.Prelude.{◌≡◌, ℕ, ◌<◌, List, [], ◌++◌, length, Some}
use Rattle.hpf_io.specs.States.{SourceState, SinkState}

-- These bytes were taken off the front: what is told after was told before.
pub record Takes (before after : SourceState) (bytes : List ℕ) : Type 0 where
  pub told : (rest : List ℕ) → after.left ≡ Some rest → before.left ≡ Some (bytes ++ rest)

-- These bytes were added at the end: what is told after was told before.
pub record Adds (before after : SinkState) (bytes : List ℕ) : Type 0 where
  pub told : (all : List ℕ) → after.given ≡ Some all → (earlier : List ℕ) × (before.given ≡ Some earlier) × (all ≡ earlier ++ bytes)

-- Nothing was taken: what is told after was told before.
pub record TakesNothing (before after : SourceState) : Type 0 where
  pub told : (bytes : List ℕ) → after.left ≡ Some bytes → before.left ≡ Some bytes

-- Nothing was added: what is told after was told before.
pub record AddsNothing (before after : SinkState) : Type 0 where
  pub told : (bytes : List ℕ) → after.given ≡ Some bytes → before.given ≡ Some bytes

-- Nothing is left, where that is told.
abbrev pub IsOver : SourceState → Type 0
IsOver source = (rest : List ℕ) → source.left ≡ Some rest → rest ≡ []

-- A front of the bytes was taken that is shorter than n.
abbrev pub TakesFewer : SourceState → SourceState → ℕ → Type 0
TakesFewer before after n = (front : List ℕ) × (length front < n) × Takes before after front

-- xs begins ys
abbrev pub IsPrefix : List ℕ → List ℕ → Type 0
IsPrefix xs ys = (rest : List ℕ) × (ys ≡ xs ++ rest)

-- A front of the bytes was added.
abbrev pub AddsPrefix : SinkState → SinkState → List ℕ → Type 0
AddsPrefix before after bytes = (front : List ℕ) × IsPrefix front bytes × Adds before after front

-- Where the bytes are told, all of them were flushed.
abbrev pub IsFlushed : SinkState → Type 0
IsFlushed now = (all : List ℕ) → now.given ≡ Some all → now.flushed ≡ length all

-- Where the bytes are told, the number of flushed ones stays.
pub record SameFlushed (before now : SinkState) : Type 0 where
  pub told : (all : List ℕ) → now.given ≡ Some all → now.flushed ≡ before.flushed
