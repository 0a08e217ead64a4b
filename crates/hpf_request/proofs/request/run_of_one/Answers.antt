use Rattle.std.proofs.Common.{◌≡◌, ◌∙◌, arith, ap, map, refl, sym}
use Rattle.std.proofs.lemmas.Result.{err_from_is_err_and}
use Rattle.hpf_frame.specs.FrameFile.{elements}
use Rattle.hpf_map.specs.declared.program.Need.TheVariants.{Pipeline}
use Rattle.hpf_syntax.specs.Plain.{item_tree}
use Rattle.hpf_request.specs.declared.words.Action.TheVariants.{Run}
use Rattle.hpf_request.specs.Form.{Form, form_of}
use Rattle.hpf_request.specs.Parts.{places}
use Rattle.hpf_request.proofs.Formed.{counted, form_of_first}
use Rattle.hpf_request.proofs.Staged.{some_stage}
use Rattle.hpf_request.proofs.Decisions.{denied_as, granted_as, no_memory, of_text, unresolved, unstaged, too_long, ran}
use Rattle.hpf_request.proofs.request.run_of_one.Goals as goal

pub returns-in_err-program : goal.returns-in_err-program
returns-in_err-program c =
    let p = err_from_is_err_and c.from_residual.result c.from_residual.ensures.1 in
    denied_as _ p.0 p.1 (of_text c.in_err-program.field-0.0 p.0 p.2)
    (unresolved Run Pipeline (map item_tree c.args.items.now) c.in_err-program.field-0.0 p.0 (unstaged (map item_tree c.args.items.now) c.requires) p.2 c.in_err-program.ensures)

pub stage-requires : goal.stage-requires
stage-requires c = some_stage (map item_tree c.args.items.now) c.in_ok-program.program c.in_ok-program.ensures.0 c.in_ok-program.ensures.1

pub returns-in_err-all : goal.returns-in_err-all
returns-in_err-all c =
    let p = err_from_is_err_and c.from_residual-in_err-all.result c.from_residual-in_err-all.ensures.1 in
    no_memory _ p.0 p.1 p.2

pub returns-then-count-gt-MOST_ELEMENTS : goal.returns-then-count-gt-MOST_ELEMENTS
returns-then-count-gt-MOST_ELEMENTS c =
    let m = c.stage.result.now.mapping in
    let many = counted m c.in_ok-all.all c.count.result c.in_ok-all.ensures.elements c.in_ok-all.ensures.count c.count.ensures in
    denied_as _ _ refl (rw c.from.ensures tt)
    (λ memory. too_long (map item_tree c.args.items.now) (form_of m) c.from.result (unstaged (map item_tree c.args.items.now) c.requires ∙ c.in_ok-program.ensures.0)
    (form_of_first (map item_tree c.args.items.now) c.in_ok-program.program c.stage.result.now (form_of m) c.in_ok-program.ensures.1 c.stage.ensures refl)
    (omega (arith, many, c.if-count-gt-MOST_ELEMENTS.true)) c.from.ensures)

pub returns-in_err-form : goal.returns-in_err-form
returns-in_err-form c =
    let p = err_from_is_err_and c.from_residual-in_err-form.result c.from_residual-in_err-form.ensures.1 in
    no_memory _ p.0 p.1 p.2

pub returns : goal.returns
returns c =
    let m = c.stage.result.now.mapping in
    let form : Form = record { extents = c.in_ok-form.form.extents.items; parts = places c.in_ok-form.form.parts.items } in
    let is : form ≡ form_of m = c.in_ok-form.ensures.is in
    let many = counted m c.in_ok-all.all c.count.result c.in_ok-all.ensures.elements c.in_ok-all.ensures.count c.count.ensures in
    let same = ap (λ (z : Form). elements z.extents) is in
    granted_as _
    (ran (map item_tree c.args.items.now) form (unstaged (map item_tree c.args.items.now) c.requires ∙ c.in_ok-program.ensures.0)
    (form_of_first (map item_tree c.args.items.now) c.in_ok-program.program c.stage.result.now form c.in_ok-program.ensures.1 c.stage.ensures is)
    (omega (arith, many, same, c.if-count-gt-MOST_ELEMENTS.false)))
    (c.in_ok-form.ensures.met, c.in_ok-form.ensures.elements ∙ (c.in_ok-all.ensures.count ∙ sym same))
