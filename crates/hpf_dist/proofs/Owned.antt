-- Each position has an owner.
use Rattle.std.proofs.Common.{ℕ, zero, suc, ◌+◌, ◌*◌, ◌<◌, ◌≤◌, Bool, find, unwrap_or, ℤ, arith, mul_comm, inl, inr}
use Rattle.std.specs.List.{range_with_len}
use Rattle.std.proofs.lemmas.Bool.{cases_Bool}
use Rattle.std.proofs.lemmas.Int.{ints}
use Rattle.std.proofs.lemmas.Nat.{div_below, mod_below}
use Rattle.hpf_dist.specs.Owner.{own, is_in_block}
use Rattle.hpf_dist.specs.Axis.{Divided, IsAxis, extent, before}
use Rattle.hpf_dist.specs.Condition.{Suits}
use Rattle.hpf_dist.specs.Spread.{IsPosition, HasOwners}
use Rattle.hpf_dist.specs.declared.format.Format.{Format}
use Rattle.hpf_dist.specs.declared.format.Format.TheVariants.{Block, Cyclic, GenBlock, Indirect}

-- the first of some numbers that passes is one of them
found_below : (p : ℕ → Bool) (a n m : ℕ) → a + n ≤ m → 1 ≤ m → unwrap_or (find p (range_with_len a n)) 0 < m
found_below p a zero m most some = omega arith
found_below p a (suc n) m most some =
    elim (cases_Bool (p a)) [
      | inl passes ↦ rw passes (omega arith)
      | inr fails ↦ rw fails (found_below p (a + 1) n m (omega arith) some)
    ]

own_below : (format : Format) (d n x : ℕ) → 1 ≤ n → Suits d n format → x < d → own format n x < n
own_below (Block width) d n x some suits below =
    let reach : x < n * width = omega (arith, suits.enough, mul_comm width n) in
    div_below x width n suits.some reach
own_below (Cyclic width) d n x some suits below = mod_below _ n some
own_below (GenBlock lengths) d n x some suits below = found_below (is_in_block lengths x) 0 n n (omega arith) some
own_below (Indirect places) d n x some suits below = suits.below x 0 (omega (arith, suits.each))

-- so many positions lie before one
before_within : (low high t : ℤ) → IsPosition (record { low = low; high = high; procs = 1; format = Block 1 }) t → before low t < extent low high
before_within low high t h = let a = h.low in let b = h.high in omega (arith, ints)

pub has_owners : (axis : Divided) → IsAxis axis → HasOwners axis
has_owners axis is t h =
    own_below axis.format (extent axis.low axis.high) axis.procs (before axis.low t) is.procs.least is.suits (before_within axis.low axis.high t (record { low = h.low; high = h.high }))
