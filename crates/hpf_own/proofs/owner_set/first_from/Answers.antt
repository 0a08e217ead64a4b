use Rattle.std.proofs.Common.{◌≡◌, ℕ, ◌+◌, ◌-◌, ◌/◌, ◌%◌, ◌^◌, ◌<◌, ◌≤◌, w64, inl, inr, sym, ap, ◌∙◌, rules, arith}
use Rattle.std.specs.Int.{bit_at}
use Rattle.std.proofs.lemmas.Nat.{shr-shr, shr_le}
use Rattle.std.proofs.lemmas.Nat.Bits.{bit_at_above, bit_at-zero, bit_at-trailing_zeros}
use Rattle.std.proofs.lemmas.Bool.{cases_lt}
use Rattle.hpf_own.proofs.owner_set.first_from.Goals as goal

pub returns-then-from-ge-BITS : goal.returns-then-from-ge-BITS
returns-then-from-ge-BITS c = λ k more. bit_at_above c.args.set 64 k (search rules) (omega arith)

-- a bit behind a shift
behind : (n f k : ℕ) → f ≤ k → bit_at n k ≡ bit_at (n / 2 ^ f) (k - f)
behind n f k h =
    ap (λ (j : ℕ). bit_at n j) (let z : k ≡ f + (k - f) = omega arith in z) ∙ sym (ap (λ (m : ℕ). m % 2) (shr-shr n f (k - f)))

pub returns-then-rest-eq0 : goal.returns-then-rest-eq0
returns-then-rest-eq0 c = λ k more.
    behind c.args.set c.args.from k more ∙ ap (λ (n : ℕ). bit_at n (k - c.args.from)) c.if-rest-eq0.true ∙ bit_at-zero (k - c.args.from)

found : (n f z : ℕ) → (bit_at (n / 2 ^ f) z ≡ 1) → ((i : ℕ) → i < z → bit_at (n / 2 ^ f) i ≡ 0) → (bit_at n (f + z) ≡ 1) × ((k : ℕ) → f ≤ k → k < f + z → bit_at n k ≡ 0)
found n f z h before = (
  behind n f (f + z) (omega arith) ∙ ap (λ (j : ℕ). bit_at (n / 2 ^ f) j) (let e : f + z - f ≡ z = omega arith in e) ∙ h,
  λ k low high. behind n f k low ∙ before (k - f) (omega arith),
)

-- a bit of a number of 64 bits
within : (n k : ℕ) → n < 2 ^ 64 → bit_at n k ≡ 1 → k < 64
within n k h one =
    elim (cases_lt k 64) [ inl less ↦ less | inr more ↦ absurd (let z = sym (bit_at_above n 64 k h more) ∙ one in omega arith) ]

pub returns-else-rest-eq0 : goal.returns-else-rest-eq0
returns-else-rest-eq0 c =
    let n = c.args.set / 2 ^ c.args.from in
    let some : 0 < n = search rules in
    let fits : n < 2 ^ 64 = omega (arith, shr_le c.args.set c.args.from) in
    let t = bit_at-trailing_zeros w64 n some fits in
    let f = found c.args.set c.args.from _ t.1 t.2 in
    (omega arith, within c.args.set _ (search rules) f.0, f.0, f.1)
