use Rattle.std.proofs.Common.{rules, ◌≡◌, max, ap, ◌∙◌}
use Rattle.hpf_map.proofs.PlaceLemmas.{last_more}
use Rattle.hpf_map.proofs.places.last_line_of_all.Goals as goal

pub loop-thing-preserved : goal.loop-thing-preserved
loop-thing-preserved g c =
    let greater : c.max-last.result ≡ max c.loop-thing.last c.last_line.result = search rules in
    last_more g.T.Placed.tree g.T.Placed.greatest c.args.things.now c.loop-thing.thing-index c.thing-item.result _ _
    c.loop-thing-test.true c.thing-item.is c.loop-thing.invariant (greater ∙ ap (max c.loop-thing.last) c.last_line.ensures)
