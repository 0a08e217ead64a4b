-- A format either suits or breaks its condition, in one way.
use Rattle.std.proofs.Common.{◌≡◌, ℕ, ◌↔◌, Result, Err, refl, arith, subst, ap}
use Rattle.hpf_dist.specs.Condition.{Suits, Breaks}
use Rattle.hpf_dist.specs.declared.format.Format.{Format}
use Rattle.hpf_dist.specs.declared.format.Format.TheVariants.{Block, Cyclic, GenBlock, Indirect}
use Rattle.hpf_dist.specs.declared.refusal.AxisRefusal.{AxisRefusal}
use Rattle.hpf_dist.specs.declared.refusal.AxisRefusal.TheVariants.{BlockTooSmall, WidthZero, LengthCount, LengthSum, PlaceCount, PlaceValue}

-- what suits breaks nothing
suits_whole : (d n : ℕ) (format : Format) (r : AxisRefusal) → Suits d n format → Breaks d n format r → ⊥
suits_whole d n (Block width) WidthZero s b = omega (arith, s.some)
suits_whole d n (Block width) BlockTooSmall s b = omega (arith, s.enough, b.few)
suits_whole d n (Block width) _ s b = b
suits_whole d n (Cyclic width) WidthZero s b = omega arith
suits_whole d n (Cyclic width) _ s b = b
suits_whole d n (GenBlock lengths) LengthCount s b = b s.each
suits_whole d n (GenBlock lengths) LengthSum s b = omega (arith, s.enough, b.few)
suits_whole d n (GenBlock lengths) _ s b = b
suits_whole d n (Indirect places) PlaceCount s b = b s.each
suits_whole d n (Indirect places) PlaceValue s b =
    let stray = b.stray in
    let below = s.below stray.0 stray.1 stray.2 in
    omega (arith, stray.3, stray.4)
suits_whole d n (Indirect places) _ s b = b

-- one thing is broken at most
one_break : (d n : ℕ) (format : Format) (r s : AxisRefusal) → Breaks d n format r → Breaks d n format s → r ≡ s
one_break d n (Block width) WidthZero WidthZero a b = refl
one_break d n (Block width) WidthZero BlockTooSmall a b = absurd (omega (arith, b.some))
one_break d n (Block width) BlockTooSmall WidthZero a b = absurd (omega (arith, a.some))
one_break d n (Block width) BlockTooSmall BlockTooSmall a b = refl
one_break d n (Block width) WidthZero _ a b = absurd b
one_break d n (Block width) BlockTooSmall _ a b = absurd b
one_break d n (Block width) _ _ a b = absurd a
one_break d n (Cyclic width) WidthZero WidthZero a b = refl
one_break d n (Cyclic width) WidthZero _ a b = absurd b
one_break d n (Cyclic width) _ _ a b = absurd a
one_break d n (GenBlock lengths) LengthCount LengthCount a b = refl
one_break d n (GenBlock lengths) LengthCount LengthSum a b = absurd (a b.each)
one_break d n (GenBlock lengths) LengthSum LengthCount a b = absurd (b a.each)
one_break d n (GenBlock lengths) LengthSum LengthSum a b = refl
one_break d n (GenBlock lengths) LengthCount _ a b = absurd b
one_break d n (GenBlock lengths) LengthSum _ a b = absurd b
one_break d n (GenBlock lengths) _ _ a b = absurd a
one_break d n (Indirect places) PlaceCount PlaceCount a b = refl
one_break d n (Indirect places) PlaceCount PlaceValue a b = absurd (a b.each)
one_break d n (Indirect places) PlaceValue PlaceCount a b = absurd (b a.each)
one_break d n (Indirect places) PlaceValue PlaceValue a b = refl
one_break d n (Indirect places) PlaceCount _ a b = absurd b
one_break d n (Indirect places) PlaceValue _ a b = absurd b
one_break d n (Indirect places) _ _ a b = absurd a

-- what an option of a refusal says, said of all refusals
pub refused_exactly : (A : Type 0) (r : AxisRefusal) (d e n : ℕ) (format : Format) → d ≡ e → Breaks d n format r → (s : AxisRefusal) → (let a : Result A AxisRefusal = Err r in a ≡ Err s) ↔ Breaks e n format s
refused_exactly A r d e n format same broken s =
    let here = subst (λ (m : ℕ). Breaks m n format r) same broken in (
      λ q.
          let is : r ≡ s = cc in
          subst (λ (x : AxisRefusal). Breaks e n format x) is here,
      λ b. ap (λ (x : AxisRefusal). Err x) (one_break e n format r s here b),
    )

pub unsuited : (r : AxisRefusal) (d n : ℕ) (format : Format) → Breaks d n format r → Suits d n format → ⊥
unsuited r d n format broken suits = suits_whole d n format r suits broken

pub unbroken : (d n : ℕ) (format : Format) → Suits d n format → (r : AxisRefusal) → Breaks d n format r → ⊥
unbroken d n format suits r broken = suits_whole d n format r suits broken
