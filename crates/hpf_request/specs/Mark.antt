-- The mark of a part over frames. This project defines it.
use Rattle.std.specs.Prelude.{ℕ, ◌+◌, ◌*◌, ◌^◌, ℤ, pos, ◌+ℤ◌, ◌*ℤ◌, List, [], ◌∷◌}
use Rattle.std.specs.Int.{int_rem_euclid}
use Rattle.std.specs.Prelude.{unsigned_abs}
use Rattle.hpf_request.specs.Part.{values_at}

-- the sum of weight times place times value, the first of the values standing at this place, counted from 1
abbrev pub weighted : ℕ → ℕ → List ℤ → ℤ
weighted weight place [] = pos 0
weighted weight place (value ∷ values) = (pos (weight * place) *ℤ value) +ℤ weighted weight (place + 1) values

-- the same over frames, the first of which has this number, counted from 1
abbrev pub weighted_frames : ℕ → List ℕ → List (List ℤ) → ℤ
weighted_frames number positions [] = pos 0
weighted_frames number positions (frame ∷ frames) =
    weighted number 1 (values_at frame positions) +ℤ weighted_frames (number + 1) positions frames

-- the sum modulo 2^64
abbrev pub mark_of : List ℕ → List (List ℤ) → ℕ
mark_of positions frames = unsigned_abs (int_rem_euclid (weighted_frames 1 positions frames) (pos (2 ^ 64)))
