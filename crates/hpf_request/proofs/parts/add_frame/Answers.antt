use Rattle.std.proofs.Common.{◌∙◌, ap, set, sym}
use Rattle.std.proofs.lemmas.List.Edits.{map_over_more}
use Rattle.hpf_request.specs.Parts.{Holding, marked_by, places}
use Rattle.hpf_request.proofs.Grown.{HaveTaken-push, places-marked, all_written}
use Rattle.hpf_request.proofs.parts.add_frame.Goals as goal

pub loop-part-preserved : goal.loop-part-preserved
loop-part-preserved c =
    ap (λ (part : Holding). set c.loop-part.parts c.loop-part.part-index part) (c.add.ensures ∙ ap (λ (part : Holding). marked_by c.args.number c.args.frame.now part) (sym c.part-item.is))
    ∙ map_over_more (marked_by c.args.number c.args.frame.now) c.args.parts.now c.loop-part.parts c.loop-part.part-index c.part-item.result c.loop-part-test.true c.loop-part.invariant c.part-item.is

pub returns-clause-same : goal.returns-clause-same
returns-clause-same c =
    ap places (all_written (marked_by c.args.number c.args.frame.now) c.args.parts.now c.loop-part.parts c.loop-part.part-index c.loop-part-test.false c.loop-part.invariant)
    ∙ places-marked c.args.number c.args.frame.now c.args.parts.now

pub returns-clause-taken : goal.returns-clause-taken
returns-clause-taken c =
    λ extents frames taken many.
    HaveTaken-push extents c.args.number frames c.args.frame.now c.args.parts.now c.loop-part.parts taken many
    (all_written (marked_by c.args.number c.args.frame.now) c.args.parts.now c.loop-part.parts c.loop-part.part-index c.loop-part-test.false c.loop-part.invariant)
