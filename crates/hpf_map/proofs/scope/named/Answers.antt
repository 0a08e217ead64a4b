use Rattle.std.proofs.Common.{sym, ◌∙◌, ap, cond, Some, None}
use Rattle.hpf_map.specs.Known.{known}
use Rattle.hpf_map.proofs.IndexLemmas.{known_one}
use Rattle.hpf_map.proofs.scope.named.Goals as goal

pub returns-in_err-name : goal.returns-in_err-name
unfolding known
returns-in_err-name c = rw (c.in_err-name.was, c.from_residual.ensures)

pub returns-then-eq : goal.returns-then-eq
returns-then-eq c =
    rw c.in_ok-name.was
    (sym (known_one c.in_ok-name.name.now c.args.word.now c.eq.result c.eq.ensures ∙ ap (λ b. cond b (Some c.in_ok-name.name.now) None) c.if-eq.true))

pub returns-else-eq : goal.returns-else-eq
returns-else-eq c =
    rw c.in_ok-name.was
    (sym (known_one c.in_ok-name.name.now c.args.word.now c.eq.result c.eq.ensures ∙ ap (λ b. cond b (Some c.in_ok-name.name.now) None) c.if-eq.false))
