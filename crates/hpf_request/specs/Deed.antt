-- What is done of a map, and when its input is as it should be (this project defines it).
use Rattle.std.specs.Prelude.{◌≡◌, ℕ, ℤ, List, [], ◌∷◌}
use Rattle.hpf_frame.specs.FrameFile.{Shape}
use Rattle.hpf_io.specs.States.{SourceState}
use Rattle.hpf_stream.specs.Flow.{Flow, whole}
use Rattle.hpf_stream.specs.Streams.{HeldFile, HeldNoFile}

-- what is done: one text is given to out, and lines behind it to notes; or one text, which is made while it is given;
-- or frames are read, and something is given for each
pub data Deed : Type 0 where
  Print : (text lines : List ℕ) → Deed
  Compose : (text : List ℕ) → Deed
  Stream : Flow → Deed

-- it reads frames
abbrev pub ReadsFrames : Deed → Type 0
ReadsFrames (Print text lines) = ⊥
ReadsFrames (Compose text) = ⊥
ReadsFrames (Stream flow) = Unit {0}

-- it has lines for notes
abbrev pub TellsNotes : Deed → Type 0
TellsNotes (Print text []) = ⊥
TellsNotes (Print text (line ∷ lines)) = Unit {0}
TellsNotes (Compose text) = ⊥
TellsNotes (Stream flow) = Unit {0}

-- This text is due to out and these lines to notes: those of a print, a text that is made, or what is given for the
-- frames of the file that the source held.
pub data IsDue (before after : SourceState) (deed : Deed) (text lines : List ℕ) : Type 0 where
  Printed : deed ≡ Print text lines → IsDue before after deed text lines
  Composed : deed ≡ Compose text → lines ≡ [] → IsDue before after deed text lines
  Streamed : (flow : Flow) (shape : Shape) (frames : List (List ℤ)) → deed ≡ Stream flow
      → HeldFile flow before after shape frames → text ≡ whole flow shape frames → lines ≡ flow.lines frames
      → IsDue before after deed text lines

-- Frames are to be read, and the source held no file of them.
pub record IsUnreadable (before after : SourceState) (deed : Deed) : Type 0 where
  pub flow : Flow
  pub is : deed ≡ Stream flow
  pub held : HeldNoFile flow before after
