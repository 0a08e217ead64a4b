-- What becomes of a loader that the map is loaded from.
use Rattle.std.specs.Prelude.{◌≡◌, ◌≢◌, true, ℕ, List, Some}
use Rattle.hpf_io.specs.Counts.{Rose}
use Rattle.hpf_io.specs.Files.{Files}
use Rattle.hpf_io.specs.States.{LoaderState}
use Rattle.hpf_stream.specs.Outside.{Rises}
use Rattle.hpf_request.specs.declared.words.Action.{Action}
use Rattle.hpf_request.specs.Words.{Asks}

-- No load of the map that the words name has failed.
abbrev pub IsFound : List (List ℕ) → LoaderState → LoaderState → Type 0
IsFound words before after =
    Rose before.faults after.faults → (asked : Action) (name : List ℕ) → Asks words asked name
    → after.missed ≢ Some name

-- No load of the map that the words name can fail.
abbrev pub IsSafelyFound : List (List ℕ) → LoaderState → Type 0
IsSafelyFound words before = (asked : Action) (name : List ℕ) → Asks words asked name → before.may_miss name ≢ true

-- A load of the map failed: its name is kept, its count rose, and it could fail.
pub record LoadFails (words : List (List ℕ)) (before after : LoaderState) : Type 0 where
  pub asked : Action
  pub name : List ℕ
  pub asks : Asks words asked name
  pub missed_it : after.missed ≡ Some name
  pub could : before.may_miss name ≡ true
  pub rises : Rises before.faults after.faults

-- No load failed.
pub record LoadsNoFault (before after : LoaderState) : Type 0 where
  pub counted : after.faults ≡ before.faults
  pub same : after.missed ≡ before.missed

-- The files stay, where they are told.
abbrev pub KeepsFiles : LoaderState → LoaderState → Type 0
KeepsFiles before after = (all : Files) → after.files ≡ Some all → before.files ≡ Some all
