-- The ends of a flow: what was read of the source at each, and what the sinks were given.
use Rattle.std.specs.Prelude.{◌≡◌, ℕ, ◌+◌, ◌<◌, ℤ, List, [], ◌∷◌, ◌++◌, length, Some, Result, Ok, Err}
use Rattle.hpf_io.specs.Bytes.{Takes, Adds, IsPrefix, IsOver}
use Rattle.hpf_io.specs.States.{SourceState, SinkState}
use Rattle.hpf_frame.specs.FrameFile.{Shape, IsShape, AreFrames, elements, header_length, record_length, front_of, file_of}
use Rattle.hpf_frame.specs.Faults.{Place, InHeader, Behind, IsFault, sound_front}
use Rattle.hpf_frame.specs.declared.error.InputError.TheVariants as input
use Rattle.hpf_stream.specs.declared.stop.Stop.{Stop}
use Rattle.hpf_stream.specs.declared.stop.Stop.TheVariants.{Input, Output}
use Rattle.hpf_stream.specs.Outside.{Outside, Moment, Rises, Stays, Gives, Flushes, Fails}
use Rattle.hpf_stream.specs.Flow.{Flow, begun, whole, given_for}

-- how a flow ended: it went through, or it stopped
abbrev pub End : Type 0
End = Result (Unit {0}) Stop

-- All of the input was read, and it is the file of these frames.
pub record ReadsFile (shape : Shape) (enters : List ℕ) (frames : List (List ℤ)) (old new : SourceState) : Type 0 where
  pub shape_is : IsShape shape
  pub frames_are : AreFrames shape (elements enters) frames
  pub taken : Takes old new (file_of shape enters frames)
  pub over : IsOver new
  pub counted : Stays old.faults new.faults

-- The header and the records of these frames were read, and these bytes of what follows.
pub record ReadsFront (shape : Shape) (enters : List ℕ) (frames : List (List ℤ)) (more : List ℕ) (old new : SourceState) : Type 0 where
  pub shape_is : IsShape shape
  pub frames_are : AreFrames shape (elements enters) frames
  pub taken : Takes old new (front_of shape enters frames ++ more)

-- The input was read up to a place and these bytes further, which are fewer than its next part has: the header or a
-- record.
abbrev pub ReadsTo : List ℕ → Place → List ℕ → SourceState → SourceState → Type 0
ReadsTo enters InHeader more old new = (length more < header_length (length enters)) × Takes old new more
ReadsTo enters (Behind shape frames) more old new =
    (length more < record_length shape (elements enters)) × ReadsFront shape enters frames more old new

-- The same, of a header that may have been read whole.
abbrev pub ReadsPast : List ℕ → Place → List ℕ → SourceState → SourceState → Type 0
ReadsPast enters InHeader more old new = (length more < header_length (length enters) + 1) × Takes old new more
ReadsPast enters (Behind shape frames) more old new =
    (length more < record_length shape (elements enters)) × ReadsFront shape enters frames more old new

-- The next part is wrong: the input has this fault there.
pub record ReadsWrong (enters : List ℕ) (place : Place) (code offset : ℕ) (more : List ℕ) (old new : SourceState) : Type 0 where
  pub read : ReadsPast enters place more old new
  pub wrong : (rest : List ℕ) → new.left ≡ Some rest
      → IsFault enters (sound_front enters place ++ (more ++ rest)) place code offset

-- what was given once the last of these frames was answered whole: nothing, where there are none
abbrev pub through : Flow → Shape → List (List ℤ) → List ℕ
through flow shape [] = []
through flow shape (frame ∷ frames) = begun flow shape (frame ∷ frames)

-- Out failed behind what is given for some frames, within what is given for those ahead of it.
pub record Lags (flow : Flow) (shape : Shape) (done ahead : List (List ℤ)) (before after : SinkState) : Type 0 where
  pub more : List ℕ
  pub within : IsPrefix (through flow shape done ++ more) (begun flow shape (done ++ ahead))
  pub added : Adds before after (through flow shape done ++ more)
  pub fails : Fails before after (begun flow shape (done ++ ahead))

-- The ends of a flow before notes are due. Unwritten: out failed within what is given for frames that the input
-- begins with, of which the first were given whole. Unclosed: out failed when all of the input was read. Refused: the
-- input has this fault, and exactly what is given for it up to there was given. Unread: the source failed there.
pub data Stops (flow : Flow) (before after : SourceState) (out_was out_now : SinkState) (end : End) : Type 0 where
  Unwritten : end ≡ Err Output
      → (shape : Shape) (done ahead : List (List ℤ)) (more : List ℕ)
      → ReadsFront shape flow.enters (done ++ ahead) more before after
      → Lags flow shape done ahead out_was out_now
      → Stops flow before after out_was out_now end
  Unclosed : end ≡ Err Output
      → (shape : Shape) (frames : List (List ℤ)) → ReadsFile shape flow.enters frames before after
      → Fails out_was out_now (whole flow shape frames)
      → Stops flow before after out_was out_now end
  Refused : (code offset : ℕ) → end ≡ Err (Input (input.Refused code offset))
      → (place : Place) (more : List ℕ) → ReadsWrong flow.enters place code offset more before after
      → Stays before.faults after.faults
      → Gives out_was out_now (given_for flow place)
      → Stops flow before after out_was out_now end
  Unread : end ≡ Err (Input input.ReadFault)
      → (place : Place) (more : List ℕ) → ReadsTo flow.enters place more before after
      → Rises before.faults after.faults
      → Gives out_was out_now (given_for flow place)
      → Stops flow before after out_was out_now end

-- It stopped so, and where a sink failed the source did not.
pub record Halts (flow : Flow) (before after : SourceState) (out_was out_now : SinkState) (end : End) : Type 0 where
  pub stops : Stops flow before after out_was out_now end
  pub still : end ≡ Err Output → Stays before.faults after.faults

-- The ends of a flow. Finished: all of the input was read, what is given for its frames was given and flushed, and
-- then their lines went to notes. Unnoted: notes failed within the lines. Stopped: before notes were due, which
-- weren't touched.
pub data Ends {S K N : Type 0} (o : Outside S K N) (flow : Flow) (was now : Moment S K N) (end : End) : Type 0 where
  Finished : end ≡ Ok tt
      → (shape : Shape) (frames : List (List ℤ))
      → ReadsFile shape flow.enters frames (o.frames was.frames) (o.frames now.frames)
      → Flushes (o.out was.out) (o.out now.out) (whole flow shape frames)
      → Gives (o.notes was.notes) (o.notes now.notes) (flow.lines frames)
      → Ends o flow was now end
  Unnoted : end ≡ Err Output
      → (shape : Shape) (frames : List (List ℤ))
      → ReadsFile shape flow.enters frames (o.frames was.frames) (o.frames now.frames)
      → Flushes (o.out was.out) (o.out now.out) (whole flow shape frames)
      → Fails (o.notes was.notes) (o.notes now.notes) (flow.lines frames)
      → Ends o flow was now end
  Stopped : Stops flow (o.frames was.frames) (o.frames now.frames) (o.out was.out) (o.out now.out) end
      → now.notes ≡ was.notes
      → Ends o flow was now end
