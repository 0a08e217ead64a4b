use Rattle.std.proofs.Common.{refl, subst, map, ap, sym, ◌≡◌, ◌∙◌}
use Rattle.std.proofs.lemmas.Result.{err_from_is_err_and}
use Rattle.hpf_frame.specs.FrameFile.{AreExtents}
use Rattle.hpf_num.specs.Run.{extent}
use Rattle.hpf_map.specs.declared.program.Need.TheVariants.{Pipeline}
use Rattle.hpf_syntax.specs.Plain.{item_tree}
use Rattle.hpf_request.specs.declared.words.Action.TheVariants.{Make}
use Rattle.hpf_request.specs.Form.{form_of}
use Rattle.hpf_request.proofs.Formed.{extents_are, form_of_first}
use Rattle.hpf_request.proofs.Staged.{some_stage}
use Rattle.hpf_request.proofs.Decisions.{denied_as, granted_as, no_memory, of_text, unresolved, made}
use Rattle.hpf_request.proofs.request.make_of.Goals as goal

pub returns-in_err-program : goal.returns-in_err-program
returns-in_err-program c =
    let p = err_from_is_err_and c.from_residual.result c.from_residual.ensures.1 in
    denied_as _ p.0 p.1 (of_text c.in_err-program.field-0.0 p.0 p.2)
    (unresolved (Make c.args.frames c.args.seed) Pipeline (map item_tree c.args.items.now) c.in_err-program.field-0.0 p.0 refl p.2 c.in_err-program.ensures)

pub stage-requires : goal.stage-requires
stage-requires c = some_stage (map item_tree c.args.items.now) c.in_ok-program.program c.in_ok-program.ensures.0 c.in_ok-program.ensures.1

pub returns-in_err-extents : goal.returns-in_err-extents
returns-in_err-extents c =
    let p = err_from_is_err_and c.from_residual-in_err-extents.result c.from_residual-in_err-extents.ensures.1 in
    no_memory _ p.0 p.1 p.2

pub returns : goal.returns
returns c =
    let m = c.stage.result.now.mapping in
    let form = form_of_first (map item_tree c.args.items.now) c.in_ok-program.program c.stage.result.now (form_of m) c.in_ok-program.ensures.1 c.stage.ensures refl in
    let extents : c.in_ok-extents.extents.items ≡ (form_of m).extents = c.in_ok-extents.ensures ∙ ap (map extent) c.bounds.ensures.same in
    granted_as _
    (made (map item_tree c.args.items.now) c.args.frames c.args.seed (form_of m) c.in_ok-extents.extents.items c.in_ok-program.ensures.0 form extents)
    (subst AreExtents (sym extents) (extents_are m c.bounds.ensures.mapping))
