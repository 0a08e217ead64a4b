-- The source that a call reads and the sinks that it writes to, as its clauses speak of them.
use Rattle.std.specs.Prelude.{◌≡◌, ℕ, ◌≤◌, List, length}
use Rattle.hpf_io.specs.States.{SourceState, SinkState, IsSure}
use Rattle.hpf_io.specs.Bytes.{Adds, AddsPrefix, IsFlushed, SameFlushed}
use Rattle.hpf_io.specs.Counts.{Rose}

-- the frames, out and notes at a moment: the objects themselves
pub record Moment (S K N : Type 0) : Type 0 where
  pub frames : S
  pub out : K
  pub notes : N

-- what they are at a moment, as their bounds tell it
pub record Outside (S K N : Type 0) : Type 0 where
  pub frames : S → SourceState
  pub out : K → SinkState
  pub notes : N → SinkState

abbrev pub outside : {S K N : Type 0} → (S → SourceState) → (K → SinkState) → (N → SinkState) → Outside S K N
outside frames out notes = record { frames = frames; out = out; notes = notes }

abbrev pub moment : {S K N : Type 0} → S → K → N → Moment S K N
moment frames out notes = record { frames = frames; out = out; notes = notes }

-- A count of faults rose.
pub record Rises (before now : ℕ) : Type 0 where
  pub rose : Rose before now
  pub later : before ≤ now

-- A count of faults stayed.
abbrev pub Stays : ℕ → ℕ → Type 0
Stays before now = now ≡ before

-- The count of the frames' faults rose, or that of out, or that of notes.
abbrev pub FramesRise : {S K N : Type 0} → Outside S K N → Moment S K N → Moment S K N → Type 0
FramesRise o was now = Rises (o.frames was.frames).faults (o.frames now.frames).faults

abbrev pub OutRises : {S K N : Type 0} → Outside S K N → Moment S K N → Moment S K N → Type 0
OutRises o was now = Rises (o.out was.out).faults (o.out now.out).faults

abbrev pub NotesRise : {S K N : Type 0} → Outside S K N → Moment S K N → Moment S K N → Type 0
NotesRise o was now = Rises (o.notes was.notes).faults (o.notes now.notes).faults

-- It stayed.
abbrev pub FramesStay : {S K N : Type 0} → Outside S K N → Moment S K N → Moment S K N → Type 0
FramesStay o was now = Stays (o.frames was.frames).faults (o.frames now.frames).faults

abbrev pub OutStays : {S K N : Type 0} → Outside S K N → Moment S K N → Moment S K N → Type 0
OutStays o was now = Stays (o.out was.out).faults (o.out now.out).faults

abbrev pub NotesStay : {S K N : Type 0} → Outside S K N → Moment S K N → Moment S K N → Type 0
NotesStay o was now = Stays (o.notes was.notes).faults (o.notes now.notes).faults

-- No count rose: of the frames, of out, or of notes.
pub record NoFault {S K N : Type 0} (o : Outside S K N) (was now : Moment S K N) : Type 0 where
  pub frames : ¬ Rose (o.frames was.frames).faults (o.frames now.frames).faults
  pub out : ¬ Rose (o.out was.out).faults (o.out now.out).faults
  pub notes : ¬ Rose (o.notes was.notes).faults (o.notes now.notes).faults

-- No read failed, out is sure to take the text, and notes the lines.
pub record IsSafeFor {S K N : Type 0} (o : Outside S K N) (was now : Moment S K N) (text lines : List ℕ) : Type 0 where
  pub frames : ¬ Rose (o.frames was.frames).faults (o.frames now.frames).faults
  pub out : IsSure (o.out was.out) (length text)
  pub notes : IsSure (o.notes was.notes) (length lines)

-- The sink was given exactly this text. It didn't fail, and no more was flushed than before.
pub record Gives (before after : SinkState) (text : List ℕ) : Type 0 where
  pub added : Adds before after text
  pub unflushed : SameFlushed before after
  pub counted : Stays before.faults after.faults

-- The sink was given exactly this text, and flushed. It didn't fail.
pub record Flushes (before after : SinkState) (text : List ℕ) : Type 0 where
  pub added : Adds before after text
  pub flushed : IsFlushed after
  pub counted : Stays before.faults after.faults

-- The sink failed within this text, of which a front was given, or at its flush. It was not sure to take the text,
-- and no more was flushed than before.
pub record Fails (before after : SinkState) (text : List ℕ) : Type 0 where
  pub prefix : AddsPrefix before after text
  pub failed : Rises before.faults after.faults
  pub unsure : ¬ IsSure before (length text)
  pub unflushed : SameFlushed before after
