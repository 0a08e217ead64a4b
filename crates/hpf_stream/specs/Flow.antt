-- What an action gives that reads frames and gives something for each (this project defines it).
use Rattle.std.specs.Prelude.{◌≡◌, ℕ, ◌+◌, ℤ, List, [], ◌∷◌, ◌++◌, length}
use Rattle.hpf_frame.specs.FrameFile.{Shape, IsFile}
use Rattle.hpf_frame.specs.Faults.{Place, InHeader, Behind, IsFault}

-- the extents of the array whose frames enter, and what is given for a file whose elements have a shape: the bytes in
-- front of all others, those for each frame by its number (counted from 0), and those behind so many frames; and the
-- lines of notes for the frames
pub record Flow : Type 0 where
  pub enters : List ℕ
  pub front : Shape → List ℕ
  pub frame : Shape → ℕ → List ℤ → List ℕ
  pub close : Shape → ℕ → List ℕ
  pub lines : List (List ℤ) → List ℕ

-- the bytes for frames, the first of which has this number
abbrev pub bodies : Flow → Shape → ℕ → List (List ℤ) → List ℕ
bodies flow shape number [] = []
bodies flow shape number (frame ∷ frames) = flow.frame shape number frame ++ bodies flow shape (number + 1) frames

-- what is given for frames that others may follow
abbrev pub begun : Flow → Shape → List (List ℤ) → List ℕ
begun flow shape frames = flow.front shape ++ bodies flow shape 0 frames

-- what is given for frames and no others
abbrev pub whole : Flow → Shape → List (List ℤ) → List ℕ
whole flow shape frames = begun flow shape frames ++ flow.close shape (length frames)

-- what is given for an input that is good up to a place
abbrev pub given_for : Flow → Place → List ℕ
given_for flow InHeader = []
given_for flow (Behind shape frames) = begun flow shape frames

-- What an input is answered with: all that is given for its frames, where it is a file; and else what is given for it
-- up to its fault.
pub data Answers (flow : Flow) (input text : List ℕ) : Type 0 where
  Whole : (shape : Shape) (frames : List (List ℤ)) → IsFile shape flow.enters frames input
      → text ≡ whole flow shape frames
      → Answers flow input text
  Broken : (place : Place) (code offset : ℕ) → IsFault flow.enters input place code offset → text ≡ given_for flow place
      → Answers flow input text
