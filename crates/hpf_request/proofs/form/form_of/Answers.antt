use Rattle.std.proofs.Common.{◌∙◌, ap, map}
use Rattle.hpf_num.specs.Run.{extent}
use Rattle.hpf_request.proofs.Formed.{form_is, has_taken}
use Rattle.hpf_request.proofs.form.form_of.Goals as goal

pub returns-clause-is : goal.returns-clause-is
returns-clause-is c =
    form_is c.args.mapping.now c.in_ok-extents.extents.items c.in_ok-parts.parts.items (c.in_ok-extents.ensures ∙ ap (map extent) c.bounds.ensures.same) c.in_ok-parts.ensures

pub returns-clause-met : goal.returns-clause-met
returns-clause-met c =
    has_taken c.args.mapping.now c.in_ok-extents.extents.items c.in_ok-parts.parts.items c.bounds.ensures.mapping (c.element_order.ensures.size c.args.mapping.now.bounds)
    (c.in_ok-extents.ensures ∙ ap (map extent) c.bounds.ensures.same) c.in_ok-parts.ensures
