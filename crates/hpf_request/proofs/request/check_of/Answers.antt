use Rattle.std.proofs.Common.{map, refl, ap, ◌∙◌, []}
use Rattle.std.proofs.lemmas.Result.{err_from_is_err_and}
use Rattle.hpf_map.specs.declared.program.Counts.{Counts}
use Rattle.hpf_map.specs.declared.program.Need.TheVariants.{Mapping}
use Rattle.hpf_syntax.specs.Plain.{item_tree}
use Rattle.hpf_request.specs.declared.words.Action.TheVariants.{Check}
use Rattle.hpf_request.specs.CountsText.{counts_text}
use Rattle.hpf_request.specs.Deed.{Print}
use Rattle.hpf_request.specs.Order.{Granted}
use Rattle.hpf_request.proofs.Decisions.{denied_as, granted_as, of_text, unresolved, passed}
use Rattle.hpf_request.proofs.request.check_of.Goals as goal

pub returns-in_err-program : goal.returns-in_err-program
returns-in_err-program c =
    let p = err_from_is_err_and c.from_residual.result c.from_residual.ensures.1 in
    denied_as _ p.0 p.1 (of_text c.in_err-program.field-0.0 p.0 p.2)
    (unresolved Check Mapping (map item_tree c.args.items.now) c.in_err-program.field-0.0 p.0 refl p.2 c.in_err-program.ensures)

pub returns : goal.returns
returns c =
    granted_as _
    (passed Check (map item_tree c.args.items.now) _ c.in_ok-program.ensures.0
    (ap (λ (z : Counts). Granted (Print (counts_text z) [])) (c.counts.ensures ∙ c.in_ok-program.ensures.1.counts))) tt
