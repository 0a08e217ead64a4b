use Rattle.std.proofs.Common.{◌≡◌, ◌==◌, ℕ, Bool, false, ◌||◌, All, cond, get_or, [], pos, subst, sym, ap, ◌∙◌, w64, to_z-of_z, FitsSigned, eqb, eq-eqb, rules, arith}
use Rattle.std.specs.List.{list_any}
use Rattle.std.proofs.lemmas.Bool.{ne_eqb}
use Rattle.hpf_dist.specs.Spread.{IsPosition, owner_at, spread}
use Rattle.hpf_own.specs.declared.image.Image.{Image}
use Rattle.hpf_dist.specs.Shares.{shares}
use Rattle.hpf_own.specs.KeptLists.{no_run as no_bound}
use Rattle.hpf_own.specs.Mapping.{CanLead}
use Rattle.hpf_own.proofs.Leads.{any_index}
use Rattle.hpf_own.proofs.Boxes.{filter-all}
use Rattle.hpf_own.proofs.Narrowing.{filter_constant, or_false, met}
use Rattle.hpf_own.proofs.image.Image.narrowed.Goals as goal

pub owner-requires-clause-low : goal.owner-requires-clause-low
owner-requires-clause-low c =
    let h = subst (λ (i : Image). CanLead i c.args.axis.now c.args.bounds.now) c.in-Fixed.is c.requires.image in
    let n : FitsSigned w64 c.in-Fixed.n = search rules in
    let i = any_index c.args.bounds.now h.ordered in
    rw (to_z-of_z n) (h.within i.0 i.1 0 (pos 0) (omega arith)).low

pub owner-requires-clause-high : goal.owner-requires-clause-high
owner-requires-clause-high c =
    let h = subst (λ (i : Image). CanLead i c.args.axis.now c.args.bounds.now) c.in-Fixed.is c.requires.image in
    let n : FitsSigned w64 c.in-Fixed.n = search rules in
    let i = any_index c.args.bounds.now h.ordered in
    rw (to_z-of_z n) (h.within i.0 i.1 0 (pos 0) (omega arith)).high

pub owns_any-requires : goal.owns_any-requires
owns_any-requires c =
    let h = subst (λ (i : Image). CanLead i c.args.axis.now c.args.bounds.now) c.in-Spread.is c.requires.image in
    let first : FitsSigned w64 c.in-Spread.first = search rules in
    let step : FitsSigned w64 c.in-Spread.step = search rules in
    let i = any_index c.args.bounds.now h.ordered in
    let all : All (IsPosition c.args.axis.now) (spread c.in-Spread.first c.in-Spread.step c.in-Spread.count) = h.within i.0 i.1 in
    record { positions = rw (to_z-of_z first, to_z-of_z step) all }

pub returns-in_ok-runs_of-in-Along : goal.returns-in_ok-runs_of-in-Along
returns-in_ok-runs_of-in-Along c =
    let h = subst (λ (i : Image). CanLead i c.args.axis.now c.args.bounds.now) c.in-Along.is c.requires.image in
    let a : FitsSigned w64 c.in-Along.a = search rules in
    let b : FitsSigned w64 c.in-Along.b = search rules in
    let shared : c.in_ok-runs_of-in-Along.field-0 ≡ shares c.args.axis.now c.args.c c.in-Along.a c.in-Along.b (get_or c.args.bounds.now c.args.d no_bound) = rw (to_z-of_z a, to_z-of_z b) at c.in_ok-runs_of-in-Along.ensures in
    let same : c.in-Along.dim ≡ c.args.d = c.if-dim-d.true in
    rw (c.in-Along.is, eq-eqb c.in-Along.dim c.args.d same)
    (met c.meet-then-dim-d.result c.args.axis.now c.args.bounds.now c.in-Along.dim c.args.d c.in-Along.a c.in-Along.b c.args.c c.args.side c.in_ok-runs_of-in-Along.field-0 h same c.requires.within shared c.meet-then-dim-d.ensures)

pub returns-else-dim-d : goal.returns-else-dim-d
returns-else-dim-d c = rw (c.in-Along.is, ne_eqb c.in-Along.dim c.args.d c.if-dim-d.false) (sym (filter-all c.args.side))

pub returns-in-Fixed : goal.returns-in-Fixed
returns-in-Fixed c =
    let n : FitsSigned w64 c.in-Fixed.n = search rules in
    let t : Bool = owner_at c.args.axis.now c.in-Fixed.n == c.args.c in
    let tested : eqb c.owner.result c.args.c ≡ t = ap (λ (j : ℕ). j == c.args.c) (rw (to_z-of_z n) at c.owner.ensures.owner) in
    rw c.in-Fixed.is (c.kept.ensures ∙ ap (λ (b : Bool). cond b c.args.side []) (tested ∙ or_false t) ∙ sym (filter_constant (t || false) c.args.side))

pub returns-in-Spread : goal.returns-in-Spread
returns-in-Spread c =
    let first : FitsSigned w64 c.in-Spread.first = search rules in
    let step : FitsSigned w64 c.in-Spread.step = search rules in
    let tested = rw (to_z-of_z first, to_z-of_z step) at c.owns_any.ensures in
    let any = list_any (λ u. owner_at c.args.axis.now u == c.args.c) (spread c.in-Spread.first c.in-Spread.step c.in-Spread.count) in
    rw c.in-Spread.is (c.kept-in-Spread.ensures ∙ ap (λ (b : Bool). cond b c.args.side []) tested ∙ sym (filter_constant any c.args.side))
