use Rattle.std.proofs.Common.{◌≡◌, ◌++◌, ◌∷◌, [], ◌-◌, map, length, sym, ◌∙◌}
use Rattle.std.proofs.lemmas.Result.{err_from_is_err_and}
use Rattle.std.proofs.lemmas.List.{map_push}
use Rattle.hpf_syntax.specs.Plain.{item_tree}
use Rattle.hpf_syntax.specs.Statements.{text_at}
use Rattle.hpf_syntax.proofs.Texts.{some_left, none_left, statements_go_on, statements_fail, no_more_statements, statements_are_done}
use Rattle.hpf_syntax.proofs.parser.text.Goals as goal
use Rattle.hpf_syntax.proofs.parser.text.Goals.{else-loop-test, then-loop-test+then-is_empty}

pub returns-in_err-item : goal.returns-in_err-item
returns-in_err-item c =
    let p = err_from_is_err_and c.from_residual.result c.from_residual.ensures.1 in
    rw (p.1, p.2) (statements_fail 64 c.in_err-item.field-0.0 (length c.args.tokens.now) c.loop.counter (map item_tree c.loop.items) c.loop.rest.now (text_at 64 c.args.tokens.now) c.loop-test.true (some_left _ (sym c.is_empty.ensures ∙ c.if-is_empty.false)) c.in_err-item.ensures c.loop.invariant)

pub loop-preserved : goal.loop-preserved
loop-preserved c =
    let e : map item_tree c.push.new.self ≡ map item_tree c.loop.items ++ item_tree c.in_ok-item.item ∷ [] = rw c.in_ok-push.ensures (map_push _ c.loop.items c.in_ok-item.item) in
    rw e (statements_go_on 64 (length c.args.tokens.now) c.loop.counter (map item_tree c.loop.items) c.loop.rest.now (item_tree c.in_ok-item.item) c.in_ok-item.behind.now (text_at 64 c.args.tokens.now) c.loop-test.true (some_left _ (sym c.is_empty.ensures ∙ c.if-is_empty.false)) c.in_ok-item.ensures c.loop.invariant)

pub returns : goal.returns
returns c = elim c.loop-test.branch [
  | else-loop-test w ↦ statements_are_done 64 (length c.args.tokens.now) c.loop.counter (map item_tree c.loop.items) c.loop.rest.now (text_at 64 c.args.tokens.now) w.loop-test.false c.loop.invariant
  | then-loop-test+then-is_empty w ↦ sym c.loop.invariant ∙ no_more_statements 64 (length c.args.tokens.now - c.loop.counter) (map item_tree c.loop.items) c.loop.rest.now (none_left _ (sym w.is_empty.ensures ∙ w.if-is_empty.true))
]
