-- The parts of all processors, with their marks so far.
use Rattle.std.specs.Prelude.{◌≡◌, ℕ, ◌+◌, ◌^◌, ◌≤◌, length, ℤ, pos, ◌+ℤ◌, List, map, All, unsigned_abs}
use Rattle.std.specs.Int.{int_rem_euclid, IsInRange}
use Rattle.hpf_frame.specs.FrameFile.{AreExtents, elements}
use Rattle.hpf_request.specs.Part.{values_at}
use Rattle.hpf_request.specs.Mark.{mark_of, weighted}

-- the places of the elements that a processor holds, in order, and its mark
pub record Holding : Type 0 where
  pub positions : List ℕ
  pub mark : ℕ

-- the places of all processors
abbrev pub places : List Holding → List (List ℕ)
places parts = map (λ part. part.positions) parts

-- a part with its mark over these frames
abbrev pub holding_of : List (List ℤ) → List ℕ → Holding
holding_of frames positions = record { positions = positions; mark = mark_of positions frames }

-- there is one for each of these lists of places, in order
pub record AreParts (lists : List (List ℕ)) (frames : List (List ℤ)) (parts : List Holding) : Type 0 where
  pub in_order : parts ≡ map (holding_of frames) lists

-- the places lie in a frame of so many values
abbrev pub IsWithin : ℕ → Holding → Type 0
IsWithin u part = All (IsInRange 1 u) part.positions

-- The parts of an array with these extents, over at most 64 processors, have taken in these frames.
pub record HaveTaken (extents : List ℕ) (parts : List Holding) (frames : List (List ℤ)) : Type 0 where
  pub extents_are : AreExtents extents
  pub procs : length parts ≤ 64
  pub within : All (IsWithin (elements extents)) parts
  pub parts_are : AreParts (places parts) frames parts

-- the holding once its mark has taken in a further frame, which has this number, counted from 0
abbrev pub marked_by : ℕ → List ℤ → Holding → Holding
marked_by number frame part =
    record part { mark = unsigned_abs (int_rem_euclid (pos part.mark +ℤ weighted (number + 1) 1 (values_at frame part.positions)) (pos (2 ^ 64))) }
