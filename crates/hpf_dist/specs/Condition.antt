-- The condition of a format over d positions and n processors, and what is broken of it (High Performance Fortran 2.0,
-- Data Mapping, DISTRIBUTE; for GEN_BLOCK and INDIRECT this project defines it, and it names the refusals).
use Rattle.std.specs.Prelude.{ℕ, ◌≡◌, ◌≢◌, ◌*◌, ◌<◌, ◌≤◌, List, length, All}
use Rattle.std.specs.List.{Any, sum}
use Rattle.hpf_dist.specs.declared.format.Format.{Format}
use Rattle.hpf_dist.specs.declared.format.Format.TheVariants.{Block, Cyclic, GenBlock, Indirect}
use Rattle.hpf_dist.specs.declared.refusal.AxisRefusal.{AxisRefusal}
use Rattle.hpf_dist.specs.declared.refusal.AxisRefusal.TheVariants.{BlockTooSmall, WidthZero, LengthCount, LengthSum, PlaceCount, PlaceValue}
use Rattle.hpf_num.specs.Limits.{integer_limit}

-- the numbers of a format are within the limit that this project sets
abbrev pub HasSmallNumbers : Format → Type 0
HasSmallNumbers (Block width) = width ≤ integer_limit
HasSmallNumbers (Cyclic width) = width ≤ integer_limit
HasSmallNumbers (GenBlock lengths) = Unit {0}
HasSmallNumbers (Indirect places) = Unit {0}

-- ---- what suits

-- blocks of this width have a position, and reach over all of them
pub record Reaches (d n width : ℕ) : Type 0 where
  pub some : 1 ≤ width
  pub enough : d ≤ width * n

-- there is a length for each processor, and together they reach over all positions
pub record LengthsReach (d n : ℕ) (lengths : List ℕ) : Type 0 where
  pub each : length lengths ≡ n
  pub enough : d ≤ sum lengths

-- there is a place for each position, and each is a processor's
pub record AreOwners (d n : ℕ) (places : List ℕ) : Type 0 where
  pub each : length places ≡ d
  pub below : All (λ place. place < n) places

abbrev pub Suits : ℕ → ℕ → Format → Type 0
Suits d n (Block width) = Reaches d n width
Suits d n (Cyclic width) = 1 ≤ width
Suits d n (GenBlock lengths) = LengthsReach d n lengths
Suits d n (Indirect places) = AreOwners d n places

-- ---- what is broken

-- a block has no position
abbrev pub HasNoPosition : ℕ → Type 0
HasNoPosition width = width ≡ 0

-- blocks have a position, but don't reach over all of them
pub record FallsShort (d n width : ℕ) : Type 0 where
  pub some : 1 ≤ width
  pub few : width * n < d

-- there isn't one item for each
abbrev pub LacksOneEach : {A : Type 0} → ℕ → List A → Type 0
LacksOneEach n items = length items ≢ n

-- there is a length for each processor, but together they don't reach over all positions
pub record LengthsFallShort (d n : ℕ) (lengths : List ℕ) : Type 0 where
  pub each : length lengths ≡ n
  pub few : sum lengths < d

-- there is a place for each position, but one of them is no processor's
pub record HasStrayPlace (d n : ℕ) (places : List ℕ) : Type 0 where
  pub each : length places ≡ d
  pub stray : Any (λ place. n ≤ place) places

abbrev pub Breaks : ℕ → ℕ → Format → AxisRefusal → Type 0
Breaks d n (Block width) WidthZero = HasNoPosition width
Breaks d n (Block width) BlockTooSmall = FallsShort d n width
Breaks d n (Cyclic width) WidthZero = HasNoPosition width
Breaks d n (GenBlock lengths) LengthCount = LacksOneEach n lengths
Breaks d n (GenBlock lengths) LengthSum = LengthsFallShort d n lengths
Breaks d n (Indirect places) PlaceCount = LacksOneEach d places
Breaks d n (Indirect places) PlaceValue = HasStrayPlace d n places
Breaks d n format refusal = ⊥
