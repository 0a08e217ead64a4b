-- What an action does that gives one text (this project defines it).
use Rattle.std.specs.Prelude.{◌≡◌, ◌≢◌, ℕ, List, []}
use Rattle.hpf_io.specs.Bytes.{AddsPrefix, SameFlushed}
use Rattle.hpf_io.specs.States.{SinkState}
use Rattle.hpf_status.specs.declared.status.Status.{Status}
use Rattle.hpf_status.specs.declared.status.Status.TheVariants as status
use Rattle.hpf_stream.specs.Outside.{Outside, Moment, Stays, Gives, Flushes, Fails}

-- What came of a text for out, and of lines for notes behind it: both were given; or out failed within the text, and
-- notes wasn't touched; or there are lines, and notes failed within them, when all of the text was given and flushed.
pub data Tells {S K N : Type 0} (o : Outside S K N) (was now : Moment S K N) (text lines : List ℕ)
    (end : Status) : Type 0 where
  All : end ≡ status.Ok → Flushes (o.out was.out) (o.out now.out) text
      → Gives (o.notes was.notes) (o.notes now.notes) lines
      → Tells o was now text lines end
  OutFails : end ≡ status.WriteFault → Fails (o.out was.out) (o.out now.out) text → now.notes ≡ was.notes
      → Tells o was now text lines end
  NotesFail : end ≡ status.WriteFault → lines ≢ [] → Flushes (o.out was.out) (o.out now.out) text
      → Fails (o.notes was.notes) (o.notes now.notes) lines → Tells o was now text lines end

-- The text and the lines were told so, and nothing else was touched: no frames, and no notes where there are no lines.
pub record Prints {S K N : Type 0} (o : Outside S K N) (was now : Moment S K N) (text lines : List ℕ)
    (end : Status) : Type 0 where
  pub told : Tells o was now text lines end
  pub unread : now.frames ≡ was.frames
  pub quiet : lines ≡ [] → now.notes ≡ was.notes

-- The sink was given a front of this text. It didn't fail, and no more was flushed than before.
pub record Begins (before after : SinkState) (text : List ℕ) : Type 0 where
  pub prefix : AddsPrefix before after text
  pub unflushed : SameFlushed before after
  pub counted : Stays before.faults after.faults

-- What came of a text that is made while it is given: it was given and flushed; or the sink failed within it; or
-- memory ran out within it.
pub data Makes (before after : SinkState) (text : List ℕ) (end : Status) : Type 0 where
  Made : end ≡ status.Ok → Flushes before after text → Makes before after text end
  Unmade : end ≡ status.WriteFault → Fails before after text → Makes before after text end
  RunsOut : end ≡ status.OutOfMemory → Begins before after text → Makes before after text end

-- The text was made so, and nothing else was touched.
pub record Composes {S K N : Type 0} (o : Outside S K N) (was now : Moment S K N) (text : List ℕ)
    (end : Status) : Type 0 where
  pub made : Makes (o.out was.out) (o.out now.out) text end
  pub unread : now.frames ≡ was.frames
  pub quiet : now.notes ≡ was.notes
