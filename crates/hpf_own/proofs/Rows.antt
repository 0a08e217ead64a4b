-- Rows worked out by hand, so that a wrong definition is noticed.
use Rattle.std.proofs.Common.{◌≡◌, ℕ, true, false, List, [], ◌∷◌, map, slice_get, Some, ℤ, pos, negsuc, refl}
use Rattle.hpf_num.specs.declared.run.Run.{Run}
use Rattle.hpf_dist.specs.declared.format.Format.{Format}
use Rattle.hpf_dist.specs.declared.format.Format.TheVariants.{Block, Cyclic, GenBlock, Indirect}
use Rattle.hpf_own.specs.declared.image.Image.{Image}
use Rattle.hpf_own.specs.declared.image.Image.TheVariants.{Along, Fixed, Spread}
use Rattle.hpf_own.specs.declared.image.Cut.{Cut}
use Rattle.hpf_own.specs.declared.image.Cut.TheVariants.{Whole, Over}
use Rattle.hpf_own.specs.declared.image.BaseDim.{BaseDim}
use Rattle.hpf_own.specs.Space.{indices}
use Rattle.hpf_own.specs.Image.{images}
use Rattle.hpf_own.specs.Mapping.{PlainMapping}
use Rattle.hpf_own.specs.Owners.{coordinates, owners, sender, sends}
use Rattle.hpf_own.specs.Held.{is_held, owned_part, held_part}
use Rattle.hpf_own.specs.Correspondence.{corresponding}

abbrev run : ℕ → ℕ → Run
run low high = record { low = pos low; high = pos high }

-- positions from 1 to high, over n processors, in this dimension of the arrangement
abbrev divided : ℕ → ℕ → ℕ → Format → Cut
divided e high n format = Over e (record { low = pos 1; high = pos high; procs = n; format = format })

-- in blocks of so many
abbrev blocks : ℕ → ℕ → ℕ → ℕ → Cut
blocks e high n width = divided e high n (Block width)

abbrev dim : Image → Cut → BaseDim
dim image cut = record { image = image; cut = cut }

-- an array of one dimension from 1 to high
abbrev line : ℕ → List BaseDim → List ℕ → PlainMapping
line high dims procs = record { bounds = run 1 high ∷ []; dims = dims; procs = procs; shadow = record { low = 0; high = 0 } ∷ [] }

-- the owners of its elements, one after another
abbrev table : PlainMapping → List (List ℕ)
table m = map (λ index. owners m index) (indices m.bounds)

-- element order of a 2 by 3 array: the first subscript varies fastest
order_2_3 : indices (run 1 2 ∷ run 1 3 ∷ []) ≡
    (pos 1 ∷ pos 1 ∷ []) ∷ (pos 2 ∷ pos 1 ∷ []) ∷ (pos 1 ∷ pos 2 ∷ []) ∷ (pos 2 ∷ pos 2 ∷ []) ∷ (pos 1 ∷ pos 3 ∷ []) ∷ (pos 2 ∷ pos 3 ∷ []) ∷ []
order_2_3 = refl

-- a lower bound below 0
order_from_below : indices (record { low = negsuc 0; high = pos 1 } ∷ []) ≡ (negsuc 0 ∷ []) ∷ (pos 0 ∷ []) ∷ (pos 1 ∷ []) ∷ []
order_from_below = refl

-- the processors of P(2,3)
coordinates_2_3 : map (coordinates (2 ∷ 3 ∷ [])) (0 ∷ 1 ∷ 2 ∷ 3 ∷ 4 ∷ 5 ∷ []) ≡
    (0 ∷ 0 ∷ []) ∷ (1 ∷ 0 ∷ []) ∷ (0 ∷ 1 ∷ []) ∷ (1 ∷ 1 ∷ []) ∷ (0 ∷ 2 ∷ []) ∷ (1 ∷ 2 ∷ []) ∷ []
coordinates_2_3 = refl

-- A(10) BLOCK on P(4)
ten : PlainMapping
ten = line 10 (dim (Along 0 (pos 1) (pos 0)) (blocks 0 10 4 3) ∷ []) (4 ∷ [])

owners_of_ten : table ten ≡ (0 ∷ []) ∷ (0 ∷ []) ∷ (0 ∷ []) ∷ (1 ∷ []) ∷ (1 ∷ []) ∷ (1 ∷ []) ∷ (2 ∷ []) ∷ (2 ∷ []) ∷ (2 ∷ []) ∷ (3 ∷ []) ∷ []
unfolding ten
owners_of_ten = refl

-- what processors hold of it with one element more below and two above, within the bounds
abbrev elements : List ℕ → List (List ℤ)
elements ks = map (λ k. pos k ∷ []) ks

shadowed : PlainMapping
shadowed = record { bounds = run 1 10 ∷ []; dims = dim (Along 0 (pos 1) (pos 0)) (blocks 0 10 4 3) ∷ []; procs = 4 ∷ []; shadow = record { low = 1; high = 2 } ∷ [] }

held_of_ten : map (λ p. (held_part shadowed p).indices) (0 ∷ 1 ∷ 2 ∷ 3 ∷ []) ≡
    elements (1 ∷ 2 ∷ 3 ∷ 4 ∷ 5 ∷ []) ∷ elements (3 ∷ 4 ∷ 5 ∷ 6 ∷ 7 ∷ 8 ∷ []) ∷ elements (6 ∷ 7 ∷ 8 ∷ 9 ∷ 10 ∷ []) ∷ elements (9 ∷ 10 ∷ []) ∷ []
unfolding shadowed
held_of_ten = refl

-- A(10) CYCLIC(2) on P(3): a local place counts the cycles before
dealt : PlainMapping
dealt = line 10 (dim (Along 0 (pos 1) (pos 0)) (divided 0 10 3 (Cyclic 2)) ∷ []) (3 ∷ [])

owned_in_turn : map (λ p. (owned_part dealt p).indices) (0 ∷ 1 ∷ 2 ∷ []) ≡ elements (1 ∷ 2 ∷ 7 ∷ 8 ∷ []) ∷ elements (3 ∷ 4 ∷ 9 ∷ 10 ∷ []) ∷ elements (5 ∷ 6 ∷ []) ∷ []
unfolding dealt
owned_in_turn = refl

place_of_seven : slice_get (owned_part dealt 0).indices 2 ≡ Some (pos 7 ∷ [])
unfolding dealt
place_of_seven = refl

-- A(4,4) (BLOCK,BLOCK) on P(2,2), with one element more on each side: corners are held
cornered : PlainMapping
cornered = record {
  bounds = run 1 4 ∷ run 1 4 ∷ [];
  dims = dim (Along 0 (pos 1) (pos 0)) (blocks 0 4 2 2) ∷ dim (Along 1 (pos 1) (pos 0)) (blocks 1 4 2 2) ∷ [];
  procs = 2 ∷ 2 ∷ [];
  shadow = record { low = 1; high = 1 } ∷ record { low = 1; high = 1 } ∷ [];
}

corner_held : map (is_held cornered 0) ((pos 2 ∷ pos 3 ∷ []) ∷ (pos 3 ∷ pos 3 ∷ []) ∷ (pos 4 ∷ pos 3 ∷ []) ∷ (pos 1 ∷ pos 4 ∷ []) ∷ []) ≡ true ∷ true ∷ false ∷ false ∷ []
unfolding cornered
corner_held = refl

-- under PERMUTE(2,1) from A(2,0:2) to B(3,2): B(3,1) is A(1,2)
corresponding_turned : corresponding (run 1 2 ∷ run 0 2 ∷ []) (run 1 3 ∷ run 1 2 ∷ []) (2 ∷ 1 ∷ []) (pos 3 ∷ pos 1 ∷ []) ≡ pos 1 ∷ pos 2 ∷ []
corresponding_turned = refl

-- A(I) with T(11-I), T(10) BLOCK on P(4)
turned : PlainMapping
turned = line 10 (dim (Along 0 (negsuc 0) (pos 11)) (blocks 0 10 4 3) ∷ []) (4 ∷ [])

owners_turned : table turned ≡ (3 ∷ []) ∷ (2 ∷ []) ∷ (2 ∷ []) ∷ (2 ∷ []) ∷ (1 ∷ []) ∷ (1 ∷ []) ∷ (1 ∷ []) ∷ (0 ∷ []) ∷ (0 ∷ []) ∷ (0 ∷ []) ∷ []
unfolding turned
owners_turned = refl

-- A(I) with T(11-2*I), T(10) BLOCK on P(2): positions 9, 7, 5, 3, 1
owners_by_twos : table (line 5 (dim (Along 0 (negsuc 1) (pos 11)) (blocks 0 10 2 5) ∷ []) (2 ∷ [])) ≡ (1 ∷ []) ∷ (1 ∷ []) ∷ (0 ∷ []) ∷ (0 ∷ []) ∷ (0 ∷ []) ∷ []
owners_by_twos = refl

-- A(I) with T(2*I-1), T(9) CYCLIC(3) on P(2)
owners_in_turn : table (line 5 (dim (Along 0 (pos 2) (negsuc 0)) (divided 0 9 2 (Cyclic 3)) ∷ []) (2 ∷ [])) ≡ (0 ∷ []) ∷ (0 ∷ []) ∷ (1 ∷ []) ∷ (0 ∷ []) ∷ (0 ∷ []) ∷ []
owners_in_turn = refl

-- A(I) with T(I,*), T(3,2) (GEN_BLOCK,INDIRECT) on P(3,2)
owners_by_lists : table (line 3 (dim (Along 0 (pos 1) (pos 0)) (divided 0 3 3 (GenBlock (1 ∷ 0 ∷ 2 ∷ []))) ∷ dim (Spread (pos 1) (pos 1) 2) (divided 1 2 2 (Indirect (1 ∷ 0 ∷ []))) ∷ []) (3 ∷ 2 ∷ []))
    ≡ (0 ∷ 3 ∷ []) ∷ (2 ∷ 5 ∷ []) ∷ (2 ∷ 5 ∷ []) ∷ []
owners_by_lists = refl

-- A(I) with T(I,*), T(4,4) (BLOCK,BLOCK) on P(2,3): processors 4 and 5 own nothing
spread_out : PlainMapping
spread_out = line 4 (dim (Along 0 (pos 1) (pos 0)) (blocks 0 4 2 2) ∷ dim (Spread (pos 1) (pos 1) 4) (blocks 1 4 3 2) ∷ []) (2 ∷ 3 ∷ [])

owners_spread_out : table spread_out ≡ (0 ∷ 2 ∷ []) ∷ (0 ∷ 2 ∷ []) ∷ (1 ∷ 3 ∷ []) ∷ (1 ∷ 3 ∷ []) ∷ []
unfolding spread_out
owners_spread_out = refl

-- 0 and 1 send
senders_spread_out : map (sends spread_out) (0 ∷ 1 ∷ 2 ∷ 3 ∷ 4 ∷ 5 ∷ []) ≡ true ∷ true ∷ false ∷ false ∷ false ∷ false ∷ []
unfolding spread_out
senders_spread_out = refl

sender_of_three : sender spread_out (pos 3 ∷ []) ≡ 1
unfolding spread_out
sender_of_three = refl

-- A(I) with T(7): one processor owns all, and the array's dimension is collapsed
owners_fixed : table (line 3 (dim (Fixed (pos 7)) (blocks 0 10 4 3) ∷ []) (4 ∷ [])) ≡ (2 ∷ []) ∷ (2 ∷ []) ∷ (2 ∷ []) ∷ []
owners_fixed = refl

-- replicated over the positions 8 and 4 alone: part of the processors, the later one first
owners_part : table (line 2 (dim (Spread (pos 8) (negsuc 3) 2) (blocks 0 10 4 3) ∷ []) (4 ∷ [])) ≡ (1 ∷ 2 ∷ []) ∷ (1 ∷ 2 ∷ []) ∷ []
owners_part = refl

-- A(2,2) (*,BLOCK) on P(2): a dimension that isn't divided is no matter
owners_whole : table (record { bounds = run 1 2 ∷ run 1 2 ∷ []; dims = dim (Along 0 (pos 1) (pos 0)) Whole ∷ dim (Along 1 (pos 1) (pos 0)) (blocks 0 2 2 1) ∷ []; procs = 2 ∷ []; shadow = [] })
    ≡ (0 ∷ []) ∷ (0 ∷ []) ∷ (1 ∷ []) ∷ (1 ∷ []) ∷ []
owners_whole = refl

-- the images of A(2) with T(I,*), T(2,2)
images_of_two : images (dim (Along 0 (pos 1) (pos 0)) Whole ∷ dim (Spread (pos 1) (pos 1) 2) Whole ∷ []) (pos 2 ∷ []) ≡ (pos 2 ∷ pos 1 ∷ []) ∷ (pos 2 ∷ pos 2 ∷ []) ∷ []
images_of_two = refl
