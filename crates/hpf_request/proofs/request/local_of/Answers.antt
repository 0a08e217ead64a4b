use Rattle.std.proofs.Common.{map, refl, ap, arith, None}
use Rattle.std.proofs.lemmas.Result.{err_from_is_err_and}
use Rattle.hpf_syntax.specs.Plain.{item_tree}
use Rattle.hpf_request.specs.declared.words.Action.TheVariants as action
use Rattle.hpf_request.specs.Order.{Denied}
use Rattle.hpf_request.proofs.Decisions.{holder, no_holder, denied_name, denied_as, granted_as, no_memory}
use Rattle.hpf_request.proofs.request.local_of.Goals as goal

pub returns-in_err-mapping : goal.returns-in_err-mapping
returns-in_err-mapping c =
    let p = err_from_is_err_and c.from_residual.result c.from_residual.ensures.1 in
    denied_name _ (action.Local c.args.name.now c.args.processor) (map item_tree c.args.items.now) c.args.name.now c.in_err-mapping.field-0.0 p.0 p.1 p.2 refl
    (λ named is. (None, named, ap Denied is)) c.in_err-mapping.ensures.denied c.in_err-mapping.ensures.kinds

pub returns-then-processor-procs : goal.returns-then-processor-procs
returns-then-processor-procs c =
    denied_as _ _ refl ((λ e. omega (arith, e)), (λ e. omega (arith, e)))
    (λ memory. no_holder (map item_tree c.args.items.now) c.args.name.now c.args.processor c.in_ok-mapping.mapping _ c.in_ok-mapping.ensures.accepted c.in_ok-mapping.ensures.named
    (omega (arith, c.if-processor-procs.true, c.procs.ensures)) refl)

pub returns-in_err-owned : goal.returns-in_err-owned
returns-in_err-owned c =
    let p = err_from_is_err_and c.from_residual-in_err-owned.result c.from_residual-in_err-owned.ensures.1 in
    no_memory _ p.0 p.1 p.2

pub returns-in_err-held : goal.returns-in_err-held
returns-in_err-held c =
    let p = err_from_is_err_and c.from_residual-in_err-held.result c.from_residual-in_err-held.ensures.1 in
    no_memory _ p.0 p.1 p.2

pub returns : goal.returns
returns c =
    granted_as _
    (holder (map item_tree c.args.items.now) c.args.name.now c.args.processor c.in_ok-mapping.mapping c.in_ok-owned.owned c.in_ok-held.held c.in_ok-mapping.ensures.accepted c.in_ok-mapping.ensures.named
    (omega (arith, c.if-processor-procs.false, c.procs.ensures)) c.in_ok-owned.ensures c.in_ok-held.ensures)
    (let owned = c.in_ok-owned.ensures in let held = c.in_ok-held.ensures in cc)
