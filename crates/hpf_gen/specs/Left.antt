-- What is left of a generated file while it is made, for the code within.
use Rattle.std.specs.Prelude.{ℕ, ◌+◌, ◌-◌, ◌^◌, ◌<◌, ◌≤◌, ℤ, List, [], ◌++◌, map}
use Rattle.std.specs.List.{flat_map, range_with_len}
use Rattle.hpf_frame.specs.FrameFile.{version_one, element, records, end_of}
use Rattle.hpf_gen.specs.declared.piece.Frames.{Frames}
use Rattle.hpf_gen.specs.declared.piece.Next.{Next}
use Rattle.hpf_gen.specs.declared.piece.Next.TheVariants.{Record, Elements, Over}
use Rattle.hpf_gen.specs.Generated.{value, frame_of}

-- a front that was read, within what was made, within the room
pub record IsCut (at end room : ℕ) : Type 0 where
  pub read : at ≤ end
  pub made : end ≤ room

-- each frame has some elements, and not too many
pub record AreFrames (frames : Frames) : Type 0 where
  pub some : 1 ≤ frames.size
  pub few : frames.size ≤ 2 ^ 24

-- the records of the frames from one on, and the end
abbrev pub records_left : Frames → ℕ → List ℕ
records_left frames f =
    records version_one f (map (frame_of frames.seed frames.size) (range_with_len f (frames.count - f))) ++ end_of frames.count

-- the elements of a frame from one on
abbrev pub elements_left : Frames → ℕ → ℕ → List ℕ
elements_left frames f k = flat_map (element version_one) (map (value frames.seed f) (range_with_len k (frames.size - k)))

-- the bytes from what comes next on
abbrev pub left : Frames → Next → List ℕ
left frames (Record f) = records_left frames f
left frames (Elements f k) = elements_left frames f k ++ records_left frames (f + 1)
left frames Over = []

-- what comes next lies in the file
abbrev pub IsNext : Frames → Next → Type 0
IsNext frames (Record f) = f ≤ frames.count
IsNext frames (Elements f k) = (f < frames.count) × (k < frames.size)
IsNext frames Over = Unit {0}

-- the frames can be made, and what comes next lies in their file
pub record IsGoing (frames : Frames) (next : Next) : Type 0 where
  pub frames_are : AreFrames frames
  pub next_is : IsNext frames next
