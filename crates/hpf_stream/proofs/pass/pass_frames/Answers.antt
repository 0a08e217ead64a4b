use Rattle.std.proofs.Common.{◌∙◌, arith, refl, sym, ap, length}
use Rattle.std.proofs.lemmas.Result.{err_from_is_err_and}
use Rattle.hpf_frame.specs.FrameFile.{elements}
use Rattle.hpf_stream.proofs.SoFar.{SoFar-none, SoFar-more}
use Rattle.hpf_stream.proofs.Stopped.{stopped_by, halts_unclosed, header_stops, front_stops, frame_stops, handed, ended, file_read, writes_whole, fails, flush_fails, some_elements}
use Rattle.hpf_stream.proofs.pass.pass_frames.Goals as goal

pub returns-in_err-at-clause-stopped : goal.returns-in_err-at-clause-stopped
returns-in_err-at-clause-stopped g c =
    let stop = rw c.requires.enters at c.in_err-at.ensures in
    stopped_by _ _ _ (err_from_is_err_and c.from_residual.result c.from_residual.ensures.1)
    (header_stops _ _ _ _ c.in_err-at.field-0.0 stop.refused stop.fewer stop.counted)

pub returns-in_err-begin-clause-stopped : goal.returns-in_err-begin-clause-stopped
returns-in_err-begin-clause-stopped g c =
    stopped_by _ _ _ (err_from_is_err_and c.from_residual-in_err-begin.result c.from_residual-in_err-begin.ensures.1)
    (front_stops _ _ _ _ _ _ (rw c.requires.enters at c.in_ok-at.ensures.taken) c.in_ok-at.ensures.counted.same c.in_err-begin.ensures)

pub loop-init : goal.loop-init
loop-init g c = record {
  size = refl;
  same = refl;
  so_far =
      SoFar-none _ _ _ _ _ _ _ c.requires.none (rw c.requires.enters at c.in_ok-at.ensures.taken) c.in_ok-at.ensures.counted.same c.in_ok-begin.ensures
      (omega (arith, c.requires.extents.few, ap length c.requires.enters)) (rw c.requires.enters at c.in_ok-at.ensures.start);
}

pub pass_frame-requires-clause-some : goal.pass_frame-requires-clause-some
pass_frame-requires-clause-some g c = omega (arith, c.loop.invariant.size, c.requires.size, some_elements c.args.extents.now c.requires.extents)

pub returns-in_err-pass_frame-clause-stopped : goal.returns-in_err-pass_frame-clause-stopped
returns-in_err-pass_frame-clause-stopped g c =
    stopped_by _ _ _ (err_from_is_err_and c.from_residual-in_err-pass_frame.result c.from_residual-in_err-pass_frame.ensures.1)
    (frame_stops _ _ _ _ (length c.loop.frame) _ (c.loop.invariant.size ∙ (c.requires.size ∙ ap elements c.requires.enters)) c.loop.invariant.so_far (rw c.loop.invariant.same at c.in_err-pass_frame.ensures.passed))

pub loop-preserved : goal.loop-preserved
loop-preserved g c =
    let size = c.loop.invariant.size ∙ (c.requires.size ∙ ap elements c.requires.enters) in
    let frame = handed _ (rw c.loop.invariant.same at c.in_ok-pass_frame.ensures.passed) refl c.if-branch.true in
    record {
      size = omega (arith, c.loop.invariant.size);
      same = c.in_ok-pass_frame.ensures.same ∙ c.loop.invariant.same;
      so_far =
          SoFar-more _ _ _ _ _ (length c.loop.frame) size (omega (arith, c.requires.extents.within, ap elements c.requires.enters)) c.loop.invariant.so_far frame.reads frame.writes frame.next
          (λ taken. (c.in_ok-pass_frame.ensures.taken _ taken (sym c.loop.invariant.so_far.count)).0 (rw c.if-branch.true refl));
    }

pub returns-in_err-close-clause-stopped : goal.returns-in_err-close-clause-stopped
returns-in_err-close-clause-stopped g c =
    let end = ended _ c.in_ok-pass_frame.ensures.passed refl c.if-branch.false in
    let so_far = c.loop.invariant.so_far in
    stopped_by _ _ _ (err_from_is_err_and c.from_residual-in_err-close.result c.from_residual-in_err-close.ensures.1)
    (halts_unclosed so_far.all (file_read _ _ so_far end)
    (fails _ _ _ _ (writes_whole _ _ _ _ _ so_far end (c.in_ok-pass_frame.ensures.same ∙ c.loop.invariant.same) refl c.in_err-close.ensures)))

pub returns-in_err-flush-clause-stopped : goal.returns-in_err-flush-clause-stopped
returns-in_err-flush-clause-stopped g c =
    let end = ended _ c.in_ok-pass_frame.ensures.passed refl c.if-branch.false in
    let so_far = c.loop.invariant.so_far in
    let flush = c.in_err-flush.ensures in
    stopped_by _ _ _ (err_from_is_err_and c.from_residual-in_err-flush.result c.from_residual-in_err-flush.ensures.1)
    (halts_unclosed so_far.all (file_read _ _ so_far end)
    (flush_fails _ _ _ _ (writes_whole _ _ _ _ _ so_far end (c.in_ok-pass_frame.ensures.same ∙ c.loop.invariant.same) refl c.in_ok-close.ensures)
    flush.kept flush.not_flushed flush.counted.failed flush.counted.later flush.unsure))
