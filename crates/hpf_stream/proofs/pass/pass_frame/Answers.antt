use Rattle.std.proofs.Common.{◌∙◌, ap, Err}
use Rattle.std.proofs.lemmas.Result.{err_from_is_err_and}
use Rattle.hpf_stream.specs.Passes.{Unwritten}
use Rattle.hpf_stream.proofs.Stopped.{pass_stops}
use Rattle.hpf_stream.proofs.pass.pass_frame.Goals as goal

pub returns-in_err-read_frame-clause-passed : goal.returns-in_err-read_frame-clause-passed
returns-in_err-read_frame-clause-passed g c =
    let p = err_from_is_err_and c.from_residual.result c.from_residual.ensures.1 in
    let stop = c.in_err-read_frame.ensures in
    pass_stops _ c.in_err-read_frame.field-0.0 (p.1 ∙ ap Err p.2) stop.refused stop.fewer stop.counted

pub returns-in_err-take-in-Frame-clause-passed : goal.returns-in_err-take-in-Frame-clause-passed
returns-in_err-take-in-Frame-clause-passed g c =
    let p = err_from_is_err_and c.from_residual-in_err-take-in-Frame.result c.from_residual-in_err-take-in-Frame.ensures.1 in
    let read = rw c.in-Frame.is at c.in_ok-read_frame.ensures in
    Unwritten (p.1 ∙ ap Err p.2) (record { frame_is = read.values; few = read.number; taken = read.frame; counted = read.counted.same }) _ c.in_err-take-in-Frame.ensures.given
