-- What a source, a sink and a loader are at a moment (this project defines it).
use Rattle.std.specs.Prelude.{ℕ, ◌≤◌, List, Bool, Option}
use Rattle.hpf_io.specs.Files.{Files}

-- a source: the bytes that it has left, where they are told, and how often a read has failed
pub record SourceState : Type 0 where
  pub left : Option (List ℕ)
  pub faults : ℕ

-- how many bytes more a sink is sure to take without a failure, however they are cut
pub data Room : Type 0 where
  Unsure : Room
  UpTo : ℕ → Room
  Endless : Room

-- a sink: the bytes that it was given, where they are told, how many of them were flushed, how often a write or a flush
-- has failed, and how many bytes more it is sure to take
pub record SinkState : Type 0 where
  pub given : Option (List ℕ)
  pub flushed : ℕ
  pub faults : ℕ
  pub room : Room

-- a source and a sink together, as a network has them
pub record Pipe : Type 0 where
  pub from : SourceState
  pub to : SinkState

-- a loader: its files, where they are told, how often a load has failed, the name of the last one that did, and the
-- names of which a load may fail
pub record LoaderState : Type 0 where
  pub files : Option Files
  pub faults : ℕ
  pub missed : Option (List ℕ)
  pub may_miss : List ℕ → Bool

-- So many bytes are within the room.
abbrev pub Fits : Room → ℕ → Type 0
Fits Unsure count = ⊥
Fits (UpTo most) count = count ≤ most
Fits Endless count = Unit {0}

-- The sink is sure to take so many bytes more.
abbrev pub IsSure : SinkState → ℕ → Type 0
IsSure sink count = Fits sink.room count
