use Rattle.std.proofs.Common.{sym, ap, ◌∙◌, w32}
use Rattle.std.specs.Prelude.{int_lt}
use Rattle.std.specs.List.{list_any}
use Rattle.std.proofs.lemmas.Int.{to_z-of_z}
use Rattle.hpf_map.specs.Ranges.{ends_above}
use Rattle.hpf_map.proofs.name.Values.ends_above.Goals as goal

pub returns-in-Some : goal.returns-in-Some
returns-in-Some c =
    c.is_high_above.ensures
    ∙ ap (λ b. int_lt b c.in-Some.range.high) (to_z-of_z w32 c.args.bound c.ranges.bound)
    ∙ sym (c.self.invariant.above c.args.bound ∙ ap (λ r. ends_above r c.args.bound) c.in-Some.is)
    ∙ ap (list_any (λ v. int_lt c.args.bound v)) c.self.view_is

pub returns-in-None : goal.returns-in-None
returns-in-None c =
    sym (c.self.invariant.above c.args.bound ∙ ap (λ r. ends_above r c.args.bound) c.in-None.is) ∙ ap (list_any (λ v. int_lt c.args.bound v)) c.self.view_is
