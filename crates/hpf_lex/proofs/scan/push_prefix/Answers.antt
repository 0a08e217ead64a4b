use Rattle.std.proofs.Common.{◌≡◌, ◌++◌, ◌∷◌, [], sym, ◌∙◌}
use Rattle.hpf_lex.specs.Statement.{place, bare_token}
use Rattle.hpf_lex.specs.Views.{part_view}
use Rattle.hpf_lex.proofs.Marks.{none_read, one_read, no_prefix, some_prefix}
use Rattle.hpf_lex.proofs.scan.push_prefix.Goals as goal

pub returns-in-None : goal.returns-in-None
returns-in-None c =
    let part = part_view c.args.part.now in
    none_read c.args.tokens.now.items (place part.line part.start) _ (no_prefix part (sym c.prefix_kind.ensures ∙ c.in-None.is))

pub returns-in_ok-push-in-Some : goal.returns-in_ok-push-in-Some
returns-in_ok-push-in-Some c =
    let part = part_view c.args.part.now in
    let old = c.args.tokens.now.items in
    let t = bare_token c.in-Some.kind part.line part.start in
    let pushed : c.push.new.self.items ≡ old ++ t ∷ [] = rw (← c.bare.ensures) c.in_ok-push-in-Some.ensures.items in
    rw c.prefix_width.ensures
    (one_read old c.push.new.self.items (place part.line part.start) _ t _ (some_prefix part c.in-Some.kind (sym c.prefix_kind.ensures ∙ c.in-Some.is)) pushed)
