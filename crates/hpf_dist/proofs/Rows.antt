-- Worked rows.
use Rattle.std.proofs.Common.{◌≡◌, ℕ, List, [], ◌∷◌, map, pos, negsuc, refl, arith}
use Rattle.std.specs.List.{range_with_len}
use Rattle.hpf_dist.specs.Owner.{own, ceiling, even_block}
use Rattle.hpf_dist.specs.Axis.{before, extent}
use Rattle.hpf_dist.specs.Condition.{Suits, Breaks}
use Rattle.hpf_dist.specs.Spread.{owner_at, spread}
use Rattle.hpf_dist.specs.declared.format.Format.{Format}
use Rattle.hpf_dist.specs.declared.format.Format.TheVariants.{Block, Cyclic, GenBlock, Indirect}
use Rattle.hpf_dist.specs.declared.refusal.AxisRefusal.TheVariants.{BlockTooSmall, LengthSum, PlaceValue}

-- the owners of the positions from 1 to d, over n processors
abbrev owners : Format → ℕ → ℕ → List ℕ
owners format d n = map (λ t. own format n (before (pos 1) (pos t))) (range_with_len 1 d)

-- ten positions over four processors: blocks of three, the last one shorter
block_of_ten : ceiling 10 4 ≡ 3
block_of_ten = refl

owners_of_ten : owners (even_block 10 4) 10 4 ≡ 0 ∷ 0 ∷ 0 ∷ 1 ∷ 1 ∷ 1 ∷ 2 ∷ 2 ∷ 2 ∷ 3 ∷ []
owners_of_ten = refl

-- nine positions over four processors: the last one owns nothing
owners_of_nine : owners (even_block 9 4) 9 4 ≡ 0 ∷ 0 ∷ 0 ∷ 1 ∷ 1 ∷ 1 ∷ 2 ∷ 2 ∷ 2 ∷ []
owners_of_nine = refl

-- in turns of two, over three processors
owners_in_turn : owners (Cyclic 2) 10 3 ≡ 0 ∷ 0 ∷ 1 ∷ 1 ∷ 2 ∷ 2 ∷ 0 ∷ 0 ∷ 1 ∷ 1 ∷ []
owners_in_turn = refl

-- blocks of three, none and seven
owners_by_lengths : owners (GenBlock (3 ∷ 0 ∷ 7 ∷ [])) 10 3 ≡ 0 ∷ 0 ∷ 0 ∷ 2 ∷ 2 ∷ 2 ∷ 2 ∷ 2 ∷ 2 ∷ 2 ∷ []
owners_by_lengths = refl

-- the last block is cut
owners_cut : owners (GenBlock (3 ∷ 0 ∷ 9 ∷ [])) 10 3 ≡ owners (GenBlock (3 ∷ 0 ∷ 7 ∷ [])) 10 3
owners_cut = refl

six_too_short : Breaks 10 3 (GenBlock (3 ∷ 0 ∷ 6 ∷ [])) LengthSum
six_too_short = record { each = refl; few = omega arith }

owners_one_by_one : owners (Indirect (1 ∷ 0 ∷ 1 ∷ 1 ∷ 0 ∷ [])) 5 2 ≡ 1 ∷ 0 ∷ 1 ∷ 1 ∷ 0 ∷ []
owners_one_by_one = refl

no_third_processor : Breaks 5 2 (Indirect (1 ∷ 0 ∷ 1 ∷ 2 ∷ 0 ∷ [])) PlaceValue
no_third_processor = record { each = refl; stray = (3, 2, omega arith, refl, omega arith) }

-- positions from -4 to 5 in blocks of three
extent_from_below : extent (negsuc 3) (pos 5) ≡ 10
extent_from_below = refl

owner_of_minus_two : own (Block 3) 4 (before (negsuc 3) (negsuc 1)) ≡ 0
owner_of_minus_two = refl

owner_of_minus_one : own (Block 3) 4 (before (negsuc 3) (negsuc 0)) ≡ 1
owner_of_minus_one = refl

-- four blocks of two don't reach ten positions, four blocks of three do
two_too_small : Breaks 10 4 (Block 2) BlockTooSmall
two_too_small = record { some = omega arith; few = omega arith }

three_suits : Suits 10 4 (Block 3)
three_suits = record { some = omega arith; enough = omega arith }

-- every other position from 10 down to 2, in blocks of three: the owners, one after another
owners_downwards : map (owner_at (record { low = pos 1; high = pos 10; procs = 4; format = Block 3 })) (spread (pos 10) (negsuc 1) 5)
    ≡ 3 ∷ 2 ∷ 1 ∷ 1 ∷ 0 ∷ []
owners_downwards = refl
