use Rattle.std.proofs.Common.{map, refl, ap, None, Some}
use Rattle.std.proofs.lemmas.Result.{err_from_is_err_and}
use Rattle.hpf_syntax.specs.Plain.{item_tree}
use Rattle.hpf_request.specs.declared.words.Action.TheVariants as action
use Rattle.hpf_request.specs.Order.{Denied}
use Rattle.hpf_request.proofs.Decisions.{passed, denied_name, granted_as}
use Rattle.hpf_request.proofs.request.owners_of.Goals as goal

pub returns-in_err-mapping : goal.returns-in_err-mapping
returns-in_err-mapping c =
    let p = err_from_is_err_and c.from_residual.result c.from_residual.ensures.1 in
    denied_name _ (action.Owners c.args.name.now) (map item_tree c.args.items.now) c.args.name.now c.in_err-mapping.field-0.0 p.0 p.1 p.2 refl
    (λ named is. (None, named, ap Denied is)) c.in_err-mapping.ensures.denied c.in_err-mapping.ensures.kinds

pub returns : goal.returns
returns c =
    granted_as _
    (passed (action.Owners c.args.name.now) (map item_tree c.args.items.now) _ c.in_ok-mapping.ensures.accepted (Some c.in_ok-mapping.mapping, c.in_ok-mapping.ensures.named, refl)) tt
