-- Division by a positive number b, in the usual words of arithmetic.
use Rattle.std.specs.Prelude.{◌≡◌, ℤ, pos, ◌+ℤ◌, ◌*ℤ◌, ◌≤ℤ◌, ◌<ℤ◌}

-- q is the floor of a over b: q multiples of b aren't above a, and one more is
pub record IsFloor (a b q : ℤ) : Type 0 where
  pub least : (q *ℤ b) ≤ℤ a
  pub greatest : a <ℤ (q *ℤ b +ℤ b)

-- q is the ceiling of a over b: q multiples of b aren't below a, and one less is
pub record IsCeiling (a b q : ℤ) : Type 0 where
  pub greatest : a ≤ℤ (q *ℤ b)
  pub least : (q *ℤ b) <ℤ (a +ℤ b)

-- r is the remainder of a by b: from 0, below b, and a multiple of b below a
pub record IsRemainder (a b r : ℤ) : Type 0 where
  pub least : pos 0 ≤ℤ r
  pub greatest : r <ℤ b
  pub multiple : (q : ℤ) × (a ≡ q *ℤ b +ℤ r)
