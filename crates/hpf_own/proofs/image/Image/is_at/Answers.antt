use Rattle.std.proofs.Common.{◌≡◌, ◌||◌, Bool, true, false, All, refl, subst, w64, to_z-of_z, FitsSigned, rules}
use Rattle.hpf_dist.specs.Spread.{IsPosition, spread}
use Rattle.hpf_own.specs.declared.image.Image.{Image}
use Rattle.hpf_own.specs.Image.{positions}
use Rattle.hpf_own.proofs.Linear.{asked, lies, position}
use Rattle.hpf_own.proofs.image.Image.is_at.Goals as goal

pub overflow_add-a : goal.overflow_add-a
overflow_add-a c =
    (asked c.args.self.now c.args.index.now c.in-Along.dim c.in-Along.a c.in-Along.b c.in-Along.is c.requires.followed c.requires.coefficients c.requires.subscripts).fits

pub owner-requires-clause-low : goal.owner-requires-clause-low
owner-requires-clause-low c =
    let p = position c.args.self.now c.args.axis.now c.args.index.now c.in-Along.dim c.in-Along.a c.in-Along.b c.in-Along.is c.requires.followed c.requires.coefficients c.requires.subscripts in
    rw p (lies c.args.self.now c.args.axis.now c.args.index.now c.in-Along.dim c.in-Along.a c.in-Along.b c.in-Along.is c.requires.within).low

pub owner-requires-clause-high : goal.owner-requires-clause-high
owner-requires-clause-high c =
    let p = position c.args.self.now c.args.axis.now c.args.index.now c.in-Along.dim c.in-Along.a c.in-Along.b c.in-Along.is c.requires.followed c.requires.coefficients c.requires.subscripts in
    rw p (lies c.args.self.now c.args.axis.now c.args.index.now c.in-Along.dim c.in-Along.a c.in-Along.b c.in-Along.is c.requires.within).high

pub owns_any-requires : goal.owns_any-requires
owns_any-requires c =
    let first : FitsSigned w64 c.in-Spread.first = search rules in
    let step : FitsSigned w64 c.in-Spread.step = search rules in
    let h : All (IsPosition c.args.axis.now) (spread c.in-Spread.first c.in-Spread.step c.in-Spread.count) =
    subst (λ (i : Image). All (IsPosition c.args.axis.now) (positions i c.args.index.now)) c.in-Spread.is c.requires.within in
    record { positions = rw (to_z-of_z first, to_z-of_z step) h }

or_nothing : (b : Bool) → b ≡ (b || false)
or_nothing true = refl
or_nothing false = refl

pub returns-in-Along : goal.returns-in-Along
returns-in-Along c =
    let p = position c.args.self.now c.args.axis.now c.args.index.now c.in-Along.dim c.in-Along.a c.in-Along.b c.in-Along.is c.requires.followed c.requires.coefficients c.requires.subscripts in
    rw (c.in-Along.is, rw p at c.owner.ensures.owner) (or_nothing _)
