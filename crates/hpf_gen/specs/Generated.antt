-- Frames that are made from a number (this project defines them).
use Rattle.std.specs.Prelude.{ℕ, ◌+◌, ◌*◌, ◌%◌, ℤ, pos, ◌-ℤ◌, List, map}
use Rattle.std.specs.List.{range_with_len}
use Rattle.hpf_frame.specs.FrameFile.{Shape, elements, file_of}

-- the value of element k of frame f, both counted from 0, made from a seed
abbrev pub value : ℕ → ℕ → ℕ → ℤ
value seed f k = pos ((seed + 31 * f + 7 * k) % 65536) -ℤ pos 32768

-- a frame of so many elements
abbrev pub frame_of : ℕ → ℕ → ℕ → List ℤ
frame_of seed size f = map (value seed f) (range_with_len 0 size)

-- so many frames, from frame 0 on
abbrev pub frames_of : ℕ → ℕ → ℕ → List (List ℤ)
frames_of seed size count = map (frame_of seed size) (range_with_len 0 count)

-- the file of so many frames of an array with these extents
abbrev pub generated : Shape → List ℕ → ℕ → ℕ → List ℕ
generated shape extents seed count = file_of shape extents (frames_of seed (elements extents) count)
