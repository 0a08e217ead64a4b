use Rattle.std.proofs.Common.{◌||◌, sym, ap, ◌∙◌}
use Rattle.std.specs.Prelude.{int_lt}
use Rattle.std.specs.List.{list_any}
use Rattle.hpf_map.proofs.RangeLemmas.{beyond_any}
use Rattle.hpf_map.proofs.formats.has_beyond.Goals as goal

pub returns-then-has_below : goal.returns-then-has_below
returns-then-has_below c =
    c.if-has_below.true
    ∙ sym (ap (λ b. b || list_any (λ v. int_lt c.args.bounds.now.high v) c.args.values.now) (sym c.has_below.ensures ∙ c.if-has_below.true))
    ∙ beyond_any c.args.bounds.now c.args.values.now

pub returns-else-has_below : goal.returns-else-has_below
returns-else-has_below c =
    c.has_above.ensures
    ∙ sym (ap (λ b. b || list_any (λ v. int_lt c.args.bounds.now.high v) c.args.values.now) (sym c.has_below.ensures ∙ c.if-has_below.false))
    ∙ beyond_any c.args.bounds.now c.args.values.now
