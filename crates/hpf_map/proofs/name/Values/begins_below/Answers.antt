use Rattle.std.proofs.Common.{sym, ap, ◌∙◌, w32}
use Rattle.std.specs.Prelude.{int_lt}
use Rattle.std.specs.List.{list_any}
use Rattle.std.proofs.lemmas.Int.{to_z-of_z}
use Rattle.hpf_map.specs.Ranges.{begins_below}
use Rattle.hpf_map.proofs.name.Values.begins_below.Goals as goal

pub returns-in-Some : goal.returns-in-Some
returns-in-Some c =
    c.is_low_below.ensures
    ∙ ap (λ b. int_lt c.in-Some.range.low b) (to_z-of_z w32 c.args.bound c.ranges.bound)
    ∙ sym (c.self.invariant.below c.args.bound ∙ ap (λ r. begins_below r c.args.bound) c.in-Some.is)
    ∙ ap (list_any (λ v. int_lt v c.args.bound)) c.self.view_is

pub returns-in-None : goal.returns-in-None
returns-in-None c =
    sym (c.self.invariant.below c.args.bound ∙ ap (λ r. begins_below r c.args.bound) c.in-None.is) ∙ ap (list_any (λ v. int_lt v c.args.bound)) c.self.view_is
