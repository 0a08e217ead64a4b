use Rattle.std.proofs.Common.{ap, sym, ◌∙◌}
use Rattle.hpf_map.specs.Found.{least_with}
use Rattle.hpf_map.proofs.FoundLemmas.{least_with-nil}
use Rattle.hpf_map.proofs.PipelineLemmas.{none_too_many}
use Rattle.hpf_map.proofs.pipeline.test_number.Goals as goal

pub returns-else-lines-gt-MAX_LINES : goal.returns-else-lines-gt-MAX_LINES
returns-else-lines-gt-MAX_LINES c =
    sym (ap (least_with c.args.breaches.now) (none_too_many c.args.lines.now c.if-lines-gt-MAX_LINES.false) ∙ least_with-nil c.args.breaches.now)
