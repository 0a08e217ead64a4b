use Rattle.std.proofs.Common.{◌≡◌, ◌++◌, ◌∷◌, [], ◌-◌, map, length, sym, ◌∙◌}
use Rattle.std.proofs.lemmas.Result.{err_from_is_err_and}
use Rattle.std.proofs.lemmas.List.{map_push}
use Rattle.hpf_syntax.specs.Reading.{Fails, rest_of}
use Rattle.hpf_syntax.proofs.Lists.{more_goes_on, more_fails, more_ends, more_stops}
use Rattle.hpf_syntax.proofs.rule.more.Goals as goal
use Rattle.hpf_syntax.proofs.rule.more.Goals.{else-loop-test, then-loop-test+then-not-begins}

pub returns-in_err-next : goal.returns-in_err-next
returns-in_err-next g c =
    let p = err_from_is_err_and c.from_residual.result c.from_residual.ensures.1 in
    let bad : Fails c.in_err-next.field-0.0 (g.R.Rule.reading (rest_of c.loop.rest.now)) = rw (← c.behind.ensures) c.in_err-next.ensures in
    rw (p.1, p.2) (more_fails c.in_err-next.field-0.0 g.R.Rule.reading (length c.args.tokens.now) c.loop.counter (map g.R.Rule.tree c.loop.list) c.loop.rest.now _ c.loop-test.true (sym c.begins.ensures ∙ c.if-not-begins.false) bad c.loop.invariant)

pub loop-preserved : goal.loop-preserved
loop-preserved g c =
    let e : map g.R.Rule.tree c.push.new.self ≡ map g.R.Rule.tree c.loop.list ++ g.R.Rule.tree c.in_ok-next.next ∷ [] = rw c.in_ok-push.ensures (map_push _ c.loop.list c.in_ok-next.next) in
    rw e (more_goes_on g.R.Rule.reading (length c.args.tokens.now) c.loop.counter (map g.R.Rule.tree c.loop.list) c.loop.rest.now (g.R.Rule.tree c.in_ok-next.next) c.in_ok-next.behind_next.now _ c.loop-test.true (sym c.begins.ensures ∙ c.if-not-begins.false) (rw (← c.behind.ensures) c.in_ok-next.ensures) c.loop.invariant)

pub returns : goal.returns
returns g c = elim c.loop-test.branch [
  | else-loop-test w ↦ more_ends g.R.Rule.reading (length c.args.tokens.now) c.loop.counter (map g.R.Rule.tree c.loop.list) c.loop.rest.now _ w.loop-test.false c.loop.invariant
  | then-loop-test+then-not-begins w ↦ sym c.loop.invariant ∙ more_stops g.R.Rule.reading (length c.args.tokens.now - c.loop.counter) (map g.R.Rule.tree c.loop.list) c.loop.rest.now (sym w.begins.ensures ∙ w.if-not-begins.true)
]
