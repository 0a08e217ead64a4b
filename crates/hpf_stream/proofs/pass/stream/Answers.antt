use Rattle.std.proofs.Common.{◌∙◌, refl, ap, Err}
use Rattle.std.proofs.lemmas.Result.{err_from_is_err_and}
use Rattle.hpf_frame.specs.FrameFile.{version_one}
use Rattle.hpf_stream.specs.Ends.{Finished, Unnoted}
use Rattle.hpf_stream.proofs.Answered.{streams, halted}
use Rattle.hpf_stream.proofs.Stopped.{gives, fails}
use Rattle.hpf_stream.proofs.pass.stream.Goals as goal

pub returns-in_err-pass_frames : goal.returns-in_err-pass_frames
returns-in_err-pass_frames g c =
    halted _ _ (err_from_is_err_and c.from_residual.result c.from_residual.ensures.1) c.in_err-pass_frames.ensures.stopped refl

pub returns-in_err-note : goal.returns-in_err-note
returns-in_err-note g c =
    let done = c.in_ok-pass_frames.ensures.passed in
    let p = err_from_is_err_and c.from_residual-in_err-note.result c.from_residual-in_err-note.ensures.1 in
    streams (Unnoted (p.1 ∙ ap Err p.2) version_one done.0 done.1 done.2 (fails _ _ _ _ (rw c.in_ok-pass_frames.ensures.same at (c.in_err-note.ensures done.0 done.3)))) (λ e. done.1.counted)

pub returns : goal.returns
returns g c =
    let done = c.in_ok-pass_frames.ensures.passed in
    streams (Finished refl version_one done.0 done.1 done.2 (gives _ _ _ (rw c.in_ok-pass_frames.ensures.same at (c.in_ok-note.ensures done.0 done.3)))) (λ e. done.1.counted)
