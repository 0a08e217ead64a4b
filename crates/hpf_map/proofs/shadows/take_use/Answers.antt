use Rattle.std.proofs.Common.{sym, ◌∙◌}
use Rattle.hpf_map.proofs.ShadowLemmas.{first_kept, first_put}
use Rattle.hpf_map.proofs.shadows.take_use.Goals as goal

pub returns-then-contains_key-clause-first : goal.returns-then-contains_key-clause-first
returns-then-contains_key-clause-first c uses has =
    first_kept uses c.args.used.now c.args.first.now has (sym c.contains_key.ensures ∙ c.if-contains_key.true)

pub returns-in_ok-insert-clause-first : goal.returns-in_ok-insert-clause-first
returns-in_ok-insert-clause-first c uses has =
    first_put uses c.args.used.now c.args.first.now c.insert.new.self has (sym c.contains_key.ensures ∙ c.if-contains_key.false) c.in_ok-insert.ensures.updates
