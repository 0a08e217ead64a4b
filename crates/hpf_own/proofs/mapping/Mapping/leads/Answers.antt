use Rattle.std.proofs.Common.{◌↔◌, List, IsTrue, ap, ◌∙◌, subst, rules, arith}
use Rattle.hpf_num.specs.declared.run.Run.{Run}
use Rattle.hpf_own.specs.Owners.{LeadsAt}
use Rattle.hpf_own.specs.Mapping.{PlainMapping}
use Rattle.hpf_own.proofs.Divider.{divider_is, divider_none}
use Rattle.hpf_own.proofs.mapping.Mapping.leads.Goals as goal

pub returns-then-is_over : goal.returns-then-is_over
returns-then-is_over c =
    let dims = ap (λ (m : PlainMapping). m.dims) c.self.view_is in
    let found = divider_is c.as_slice-dim-items.result.now c.args.self.now.dims c.args.e c.loop-dim.dim-index c.dim-item.result (c.as_slice-dim-items.ensures.same ∙ dims) (omega arith) c.dim-item.is c.loop-dim.invariant c.if-is_over.ensures in
    let same = c.as_slice.ensures.same ∙ ap (λ (m : PlainMapping). m.bounds) c.self.view_is in
    let d = c.dim-item.result in
    rw found (subst (λ (bs : List Run). IsTrue c.leads.result ↔ LeadsAt d.image d.cut bs c.args.c) same c.leads.ensures)

pub returns : goal.returns
returns c =
    let dims = ap (λ (m : PlainMapping). m.dims) c.self.view_is in
    let none = divider_none c.as_slice-dim-items.result.now c.args.self.now.dims c.args.e c.loop-dim.dim-index (c.as_slice-dim-items.ensures.same ∙ dims) (omega arith) c.loop-dim.invariant in
    rw none (λ t. absurd (search rules), λ h. absurd h)
