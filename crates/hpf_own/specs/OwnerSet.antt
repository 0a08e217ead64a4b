-- Sets of processors, as the bits of a number.
use Rattle.std.specs.Prelude.{ℕ, ◌≡◌, ◌*◌, ◌/◌, ◌%◌, ◌^◌, ◌<◌, ◌≤◌, Bool, true, false, ◌&&◌, nat_lt, if◌then◌else◌, MatchOption, Option}
use Rattle.std.specs.Int.{bit_at}
use Rattle.hpf_dist.specs.Limits.{processor_limit}

-- the bit of a number that is in a set, or isn't
abbrev pub bit_of : Bool → ℕ
bit_of true = 1
bit_of false = 0

-- the numbers below n that pass a test are a set's
pub record IsSetOf (test : ℕ → Bool) (n set : ℕ) : Type 0 where
  pub bits : (k : ℕ) → bit_at set k ≡ bit_of (nat_lt k n && test k)
  pub below : set < 2 ^ n

-- A set of numbers below a stride, repeated for each coordinate that passes a test, a stride further each time.
pub record IsRepeated (test : ℕ → Bool) (set stride size repeated : ℕ) : Type 0 where
  pub bits : (k : ℕ) → bit_at repeated k ≡ (if nat_lt (k / stride) size && test (k / stride) then bit_at set (k % stride) else 0)
  pub below : repeated < 2 ^ (stride * size)

-- the least number of a set that isn't below this one, if there is one
abbrev pub IsFirstFrom : ℕ → ℕ → Option ℕ → Type 0
IsFirstFrom set from first =
    MatchOption first ((k : ℕ) → from ≤ k → bit_at set k ≡ 0)
    (λ p. (from ≤ p) × (p < processor_limit) × (bit_at set p ≡ 1) × ((k : ℕ) → from ≤ k → k < p → bit_at set k ≡ 0))
