use Rattle.std.proofs.Common.{All, subst, w64, to_z-of_z, FitsSigned, rules}
use Rattle.hpf_dist.specs.Spread.{IsPosition, spread}
use Rattle.hpf_own.specs.declared.image.Image.{Image}
use Rattle.hpf_own.specs.Image.{positions}
use Rattle.hpf_own.proofs.Linear.{asked, lies, position, single_least}
use Rattle.hpf_own.proofs.image.Image.least.Goals as goal

pub overflow_add-a : goal.overflow_add-a
overflow_add-a c =
    (asked c.args.self.now c.args.index.now c.in-Along.dim c.in-Along.a c.in-Along.b c.in-Along.is c.requires.followed c.requires.coefficients c.requires.subscripts).fits

pub owner-requires-clause-low : goal.owner-requires-clause-low
owner-requires-clause-low c =
    let p = position c.args.self.now c.args.axis.now c.args.index.now c.in-Along.dim c.in-Along.a c.in-Along.b c.in-Along.is c.requires.followed c.requires.coefficients c.requires.subscripts in
    rw p (lies c.args.self.now c.args.axis.now c.args.index.now c.in-Along.dim c.in-Along.a c.in-Along.b c.in-Along.is c.requires.within).low

pub owner-requires-clause-high : goal.owner-requires-clause-high
owner-requires-clause-high c =
    let p = position c.args.self.now c.args.axis.now c.args.index.now c.in-Along.dim c.in-Along.a c.in-Along.b c.in-Along.is c.requires.followed c.requires.coefficients c.requires.subscripts in
    rw p (lies c.args.self.now c.args.axis.now c.args.index.now c.in-Along.dim c.in-Along.a c.in-Along.b c.in-Along.is c.requires.within).high

pub least_of-requires-clause-positions : goal.least_of-requires-clause-positions
least_of-requires-clause-positions c =
    let first : FitsSigned w64 c.in-Spread.first = search rules in
    let step : FitsSigned w64 c.in-Spread.step = search rules in
    let h : All (IsPosition c.args.axis.now) (spread c.in-Spread.first c.in-Spread.step c.in-Spread.count) =
    subst (λ (i : Image). All (IsPosition c.args.axis.now) (positions i c.args.index.now)) c.in-Spread.is c.requires.within in
    rw (to_z-of_z first, to_z-of_z step) h

pub returns-in-Along-clause-least : goal.returns-in-Along-clause-least
returns-in-Along-clause-least c =
    let p = position c.args.self.now c.args.axis.now c.args.index.now c.in-Along.dim c.in-Along.a c.in-Along.b c.in-Along.is c.requires.followed c.requires.coefficients c.requires.subscripts in
    rw c.in-Along.is (single_least c.args.axis.now _ c.owner.result (rw p at c.owner.ensures.owner))

pub returns-in-Spread-clause-least : goal.returns-in-Spread-clause-least
returns-in-Spread-clause-least c =
    let first : FitsSigned w64 c.in-Spread.first = search rules in
    let step : FitsSigned w64 c.in-Spread.step = search rules in
    rw c.in-Spread.is (rw (to_z-of_z first, to_z-of_z step) at c.least_of.ensures.least)
