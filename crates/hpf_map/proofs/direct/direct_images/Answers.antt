use Rattle.std.proofs.Common.{map, ap, ◌∙◌, ◌++◌, ◌∷◌, []}
use Rattle.hpf_syntax.specs.Plain.{item_tree}
use Rattle.hpf_map.specs.Direct.{images_along}
use Rattle.hpf_map.specs.Ways.{way_at}
use Rattle.hpf_map.proofs.DirectLemmas.{range_more}
use Rattle.hpf_map.proofs.direct.direct_images.Goals as goal

pub loop-n-preserved : goal.loop-n-preserved
loop-n-preserved c =
    let items = map item_tree c.args.items.now in
    range_more (λ m. images_along c.args.names.now items m (way_at c.args.ways.now m)) c.loop-n.n _ _ c.loop-n.invariant
    (c.in_ok-push.ensures.items ∙ ap (λ o. c.loop-n.direct.items ++ o ∷ []) (c.in_ok-images_along.ensures ∙ ap (images_along c.args.names.now items c.loop-n.n) c.way.ensures))
