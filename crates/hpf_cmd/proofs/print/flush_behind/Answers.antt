use Rattle.std.proofs.Common.{refl}
use Rattle.std.proofs.lemmas.Result.{err_from_is_err_and}
use Rattle.hpf_cmd.proofs.Flushed.{fails, flush_fails, stopped_by}
use Rattle.hpf_cmd.proofs.print.flush_behind.Goals as goal

pub returns-in_err-flush-in-Ok-clause-failed : goal.returns-in_err-flush-in-Ok-clause-failed
returns-in_err-flush-in-Ok-clause-failed g c =
    let p = err_from_is_err_and c.from_residual.result c.from_residual.ensures.1 in
    let flush = c.in_err-flush-in-Ok.ensures in
    stopped_by _ _ _ p.1 (λ before text w.
    (p.2, flush_fails before _ _ text (rw c.in-Ok.is at w) flush.kept flush.not_flushed flush.counted.failed flush.counted.later flush.unsure))

pub returns-in-Err-clause-failed : goal.returns-in-Err-clause-failed
returns-in-Err-clause-failed g c = λ before text w. (refl, fails before _ text _ (rw c.in-Err.is at w))
