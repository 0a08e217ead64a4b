use Rattle.std.proofs.Common.{ap, subst, ◌∙◌, w32}
use Rattle.std.specs.Int.{int_min, int_max}
use Rattle.std.proofs.lemmas.Int.{to_z-of_z}
use Rattle.hpf_map.specs.Ranges.{HasRange}
use Rattle.hpf_map.proofs.RangeLemmas.{range_more}
use Rattle.hpf_map.proofs.name.with_value.Goals as goal

pub returns-in-Some : goal.returns-in-Some
returns-in-Some c values h =
    let read = to_z-of_z w32 c.args.value c.ranges.value in
    range_more values c.in-Some.range c.args.value _ _ (subst (HasRange values) c.in-Some.is h)
    (c.widened.ensures.low ∙ ap (int_min c.in-Some.range.low) read) (c.widened.ensures.high ∙ ap (int_max c.in-Some.range.high) read)
