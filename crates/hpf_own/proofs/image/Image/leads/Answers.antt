use Rattle.std.proofs.Common.{◌==◌, ℕ, All, pos, subst, sym, ◌∙◌, w64, to_z-of_z, FitsSigned, eq-eqb, rules, arith}
use Rattle.std.specs.List.{list_any}
use Rattle.std.proofs.lemmas.Bool.{eqb-true}
use Rattle.hpf_dist.specs.Spread.{IsPosition, owner_at, spread}
use Rattle.hpf_own.specs.declared.image.Image.{Image}
use Rattle.hpf_own.specs.Mapping.{CanLead}
use Rattle.hpf_own.specs.Owners.{IsLeast}
use Rattle.hpf_own.proofs.Leads.{first_linear, line_in, line_leads, leads_line, any_index, same_least}
use Rattle.hpf_own.proofs.image.Image.leads.Goals as goal

pub overflow_mul-a : goal.overflow_mul-a
overflow_mul-a c =
    let h = subst (λ (i : Image). CanLead i c.args.axis.now c.args.bounds.now) c.in-Along.is c.requires in
    (first_linear c.args.axis.now c.args.bounds.now c.in-Along.dim c.in-Along.a c.in-Along.b h).product

pub overflow_add-a : goal.overflow_add-a
overflow_add-a c =
    let h = subst (λ (i : Image). CanLead i c.args.axis.now c.args.bounds.now) c.in-Along.is c.requires in
    (first_linear c.args.axis.now c.args.bounds.now c.in-Along.dim c.in-Along.a c.in-Along.b h).fits

pub owns_any-requires : goal.owns_any-requires
owns_any-requires c =
    let h = subst (λ (i : Image). CanLead i c.args.axis.now c.args.bounds.now) c.in-Along.is c.requires in
    let l = first_linear c.args.axis.now c.args.bounds.now c.in-Along.dim c.in-Along.a c.in-Along.b h in
    let a : FitsSigned w64 c.in-Along.a = search rules in
    record { positions = rw (to_z-of_z l.fits, l.is, to_z-of_z a, c.extent.ensures) (line_in c.args.axis.now c.args.bounds.now c.in-Along.dim c.in-Along.a c.in-Along.b h) }

pub owner-requires-clause-low : goal.owner-requires-clause-low
owner-requires-clause-low c =
    let h = subst (λ (i : Image). CanLead i c.args.axis.now c.args.bounds.now) c.in-Fixed.is c.requires in
    let n : FitsSigned w64 c.in-Fixed.n = search rules in
    let i = any_index c.args.bounds.now h.ordered in
    rw (to_z-of_z n) (h.within i.0 i.1 0 (pos 0) (omega arith)).low

pub owner-requires-clause-high : goal.owner-requires-clause-high
owner-requires-clause-high c =
    let h = subst (λ (i : Image). CanLead i c.args.axis.now c.args.bounds.now) c.in-Fixed.is c.requires in
    let n : FitsSigned w64 c.in-Fixed.n = search rules in
    let i = any_index c.args.bounds.now h.ordered in
    rw (to_z-of_z n) (h.within i.0 i.1 0 (pos 0) (omega arith)).high

pub least_of-requires-clause-positions : goal.least_of-requires-clause-positions
least_of-requires-clause-positions c =
    let h = subst (λ (i : Image). CanLead i c.args.axis.now c.args.bounds.now) c.in-Spread.is c.requires in
    let first : FitsSigned w64 c.in-Spread.first = search rules in
    let step : FitsSigned w64 c.in-Spread.step = search rules in
    let i = any_index c.args.bounds.now h.ordered in
    let all : All (IsPosition c.args.axis.now) (spread c.in-Spread.first c.in-Spread.step c.in-Spread.count) = h.within i.0 i.1 in
    rw (to_z-of_z first, to_z-of_z step) all

pub returns-in-Along : goal.returns-in-Along
returns-in-Along c =
    let h = subst (λ (i : Image). CanLead i c.args.axis.now c.args.bounds.now) c.in-Along.is c.requires in
    let l = first_linear c.args.axis.now c.args.bounds.now c.in-Along.dim c.in-Along.a c.in-Along.b h in
    let a : FitsSigned w64 c.in-Along.a = search rules in
    let o = rw (to_z-of_z l.fits, l.is, to_z-of_z a, c.extent.ensures) at c.owns_any.ensures in
    rw c.in-Along.is (
      λ t. line_leads c.args.axis.now c.args.bounds.now c.in-Along.dim c.in-Along.a c.in-Along.b c.args.c (sym o ∙ t),
      λ k. o ∙ leads_line c.args.axis.now c.args.bounds.now c.in-Along.dim c.in-Along.a c.in-Along.b c.args.c k,
    )

pub returns-in-Spread : goal.returns-in-Spread
returns-in-Spread c =
    let first : FitsSigned w64 c.in-Spread.first = search rules in
    let step : FitsSigned w64 c.in-Spread.step = search rules in
    let least = rw (to_z-of_z first, to_z-of_z step) at c.least_of.ensures.least in
    rw c.in-Spread.is (
      λ t. subst (λ (j : ℕ). IsLeast (λ k. list_any (λ u. owner_at c.args.axis.now u == k) (spread c.in-Spread.first c.in-Spread.step c.in-Spread.count)) j) (eqb-true _ _ t) least,
      λ k. eq-eqb _ _ (same_least _ _ _ least k),
    )
