-- Rows worked out by hand, so that a wrong definition is noticed.
use Rattle.std.proofs.Common.{◌≡◌, List, [], ◌∷◌, map, ℤ, pos, negsuc, refl}
use Rattle.hpf_num.specs.declared.run.Run.{Run}
use Rattle.hpf_num.specs.Run.{integers}
use Rattle.hpf_num.specs.Runs.{common, widened, preimage, starts}

abbrev run : ℤ → ℤ → Run
run low high = record { low = low; high = high }

abbrev five : List ℤ
five = map pos (1 ∷ 2 ∷ 7 ∷ 8 ∷ 9 ∷ [])

integers_from_below : integers (run (negsuc 1) (pos 1)) ≡ negsuc 1 ∷ negsuc 0 ∷ pos 0 ∷ pos 1 ∷ []
integers_from_below = refl

integers_none : integers (run (pos 3) (pos 2)) ≡ []
integers_none = refl

two_runs : starts five ≡ pos 1 ∷ pos 7 ∷ []
two_runs = refl

-- 10-3*i: 7 at 1 and 1 at 3
downwards : preimage five (negsuc 2) (pos 10) (run (pos 0) (pos 10)) ≡ pos 1 ∷ pos 3 ∷ []
downwards = refl

-- a member as the image of each integer
same_image : preimage five (pos 0) (pos 7) (run (pos 4) (pos 6)) ≡ pos 4 ∷ pos 5 ∷ pos 6 ∷ []
same_image = refl

-- neither below the lower bound nor above the upper one
near_bounds : widened (pos 1 ∷ pos 10 ∷ []) 2 3 (run (pos 1) (pos 10)) ≡ map pos (1 ∷ 2 ∷ 3 ∷ 4 ∷ 8 ∷ 9 ∷ 10 ∷ [])
near_bounds = refl

in_both : common five (pos 2 ∷ pos 3 ∷ pos 8 ∷ []) ≡ pos 2 ∷ pos 8 ∷ []
in_both = refl
