use Rattle.std.proofs.Common.{ap, sym, ◌∙◌}
use Rattle.hpf_map.specs.Found.{least_with}
use Rattle.hpf_map.proofs.FoundLemmas.{least_with-nil}
use Rattle.hpf_map.proofs.ShapeLemmas.{none_of_more}
use Rattle.hpf_map.proofs.shapes.test_count.Goals as goal

pub returns-else-bounds-gt-MAX_BOUNDS : goal.returns-else-bounds-gt-MAX_BOUNDS
returns-else-bounds-gt-MAX_BOUNDS c =
    sym (ap (least_with c.args.breaches.now) (none_of_more c.args.bounds.now c.if-bounds-gt-MAX_BOUNDS.false) ∙ least_with-nil c.args.breaches.now)
