-- Where bytes stop being a frame file. This project defines it.
use Rattle.std.specs.Prelude.{◌≡◌, ℕ, ℤ, List, [], ◌++◌, length}
use Rattle.hpf_frame.specs.FrameFile.{Shape, IsShape, HasHeader, HasRecord, AreFrames, elements, front_of, end_of}

-- where the fault lies: in the header, or behind it and these whole frames
pub data Place : Type 0 where
  InHeader : Place
  Behind : Shape → List (List ℤ) → Place

-- what stands before the header or the record in which the fault lies
abbrev pub sound_front : List ℕ → Place → List ℕ
sound_front extents InHeader = []
sound_front extents (Behind shape frames) = front_of shape extents frames

-- no refusal says yet which field is wrong
abbrev pub IsNotBuilt : ℕ → ℕ → Type 0
IsNotBuilt code offset = (code ≡ 0) × (offset ≡ 0)

-- the bytes do not begin with the header
abbrev pub LacksHeader : List ℕ → List ℕ → Type 0
LacksHeader extents bytes = (shape : Shape) → IsShape shape → ¬ HasHeader shape extents bytes

-- In place of the record with this number, or of the end, the bytes have neither.
pub record IsBroken (shape : Shape) (size frame : ℕ) (bytes : List ℕ) : Type 0 where
  pub no_record : ¬ HasRecord shape size frame bytes
  pub no_end : ¬ (bytes ≡ end_of frame)

-- The fault of bytes that stand where a record begins, or the end: behind so many frames, and at this offset of the file.
pub record RecordFault (shape : Shape) (size frame begins : ℕ) (bytes : List ℕ) (code offset : ℕ) : Type 0 where
  pub not_built : IsNotBuilt code offset
  pub broken : IsBroken shape size frame bytes

-- The fault of bytes that lack the header.
pub record HeaderFault (extents bytes : List ℕ) (code offset : ℕ) : Type 0 where
  pub not_built : IsNotBuilt code offset
  pub lacks : LacksHeader extents bytes

-- The fault of bytes that stand behind these whole frames.
pub record FaultBehind (shape : Shape) (extents : List ℕ) (frames : List (List ℤ)) (bytes : List ℕ) (code offset : ℕ) : Type 0 where
  pub shape_is : IsShape shape
  pub frames_are : AreFrames shape (elements extents) frames
  pub rest : List ℕ
  pub bytes_are : bytes ≡ front_of shape extents frames ++ rest
  pub fault : RecordFault shape (elements extents) (length frames) (length (front_of shape extents frames)) rest code offset

-- The bytes are no file of arrays with these extents: the fault lies there, and has this code and this offset.
abbrev pub IsFault : List ℕ → List ℕ → Place → ℕ → ℕ → Type 0
IsFault extents bytes InHeader code offset = HeaderFault extents bytes code offset
IsFault extents bytes (Behind shape frames) code offset = FaultBehind shape extents frames bytes code offset
