-- The quotient and the remainder of std round down for a positive divisor.
use Rattle.std.proofs.Common.{ℕ, zero, suc, ◌≡◌, ◌≢◌, ◌+◌, ◌-◌, ◌*◌, ◌/◌, ◌%◌, ◌<◌, ◌≤◌, ℤ, pos, negsuc, ◌+ℤ◌, ◌≤ℤ◌, FitsSigned, w64, arith}
use Rattle.std.proofs.Math.Nat.{mul-le-mul_left}
use Rattle.std.proofs.lemmas.Int.{ints}
use Rattle.std.specs.Int.{int_div_euclid, int_rem_euclid}
use Rattle.hpf_num.specs.Division.{IsFloor, IsCeiling, IsRemainder}

pub floor_is : (a b : ℤ) → pos 1 ≤ℤ b → IsFloor a b (int_div_euclid a b)
floor_is (pos a) (pos b) h = record { least = omega (arith, ints); greatest = omega (arith, ints) }
floor_is (negsuc a) (pos b) h = record { least = omega (arith, ints); greatest = omega (arith, ints) }
floor_is a (negsuc b) h = absurd (omega (arith, ints))

pub remainder_is : (a b : ℤ) → pos 1 ≤ℤ b → IsRemainder a b (int_rem_euclid a b)
remainder_is (pos a) (pos b) h =
    record { least = omega (arith, ints); greatest = omega (arith, ints); multiple = (pos (a / b), omega (arith, ints)) }
remainder_is (negsuc a) (pos b) h =
    record { least = omega (arith, ints); greatest = omega (arith, ints); multiple = (negsuc (a / b), omega (arith, ints)) }
remainder_is a (negsuc b) h = absurd (omega (arith, ints))

-- nothing is left: the quotient is the ceiling too
pub whole_is : (a b : ℤ) → pos 1 ≤ℤ b → int_rem_euclid a b ≡ pos 0 → IsCeiling a b (int_div_euclid a b)
whole_is (pos a) (pos b) h e = record { greatest = omega (arith, ints); least = omega (arith, ints) }
whole_is (negsuc a) (pos b) h e = record { greatest = omega (arith, ints); least = omega (arith, ints) }
whole_is a (negsuc b) h e = absurd (omega (arith, ints))

less_one : (q : ℕ) → negsuc (suc q) +ℤ pos 1 ≡ negsuc q
less_one q = omega (arith, ints)

-- one more than the quotient of -1 - a, where b leaves something of it
ceiling_below : (a b q r : ℕ) → a ≡ b * q + r → r + 1 < b → IsCeiling (negsuc a) (pos b) (negsuc q +ℤ pos 1)
ceiling_below a b zero r e h = record { greatest = omega (arith, ints); least = omega (arith, ints) }
ceiling_below a b (suc q) r e h =
    rw less_one (record { greatest = omega (arith, ints); least = omega (arith, ints) })

-- something is left: one more is
pub rest_is : (a b : ℤ) → pos 1 ≤ℤ b → int_rem_euclid a b ≢ pos 0 → IsCeiling a b (int_div_euclid a b +ℤ pos 1)
rest_is (pos a) (pos b) h e =
    let some : a % b ≢ 0 = λ z. e (omega (arith, ints)) in
    record { greatest = omega (arith, ints); least = omega (arith, ints) }
rest_is (negsuc a) (pos b) h e =
    let some : b - 1 - a % b ≢ 0 = λ z. e (omega (arith, ints)) in
    ceiling_below a b (a / b) (a % b) (omega (arith, ints)) (omega (arith, ints))
rest_is a (negsuc b) h e = absurd (omega (arith, ints))

-- where something is left, the divisor is at least 2, and the quotient well within the range
pub rest_fits : (a b : ℤ) → FitsSigned w64 a → pos 1 ≤ℤ b → int_rem_euclid a b ≢ pos 0 → FitsSigned w64 (int_div_euclid a b +ℤ pos 1)
rest_fits (pos a) (pos b) f h e =
    let some : a % b ≢ 0 = λ z. e (omega (arith, ints)) in
    let two : 2 ≤ b = omega (arith, ints) in
    omega (arith, ints, mul-le-mul_left (a / b) two)
rest_fits (negsuc a) (pos b) f h e = omega (arith, ints)
rest_fits a (negsuc b) f h e = absurd (omega (arith, ints))
