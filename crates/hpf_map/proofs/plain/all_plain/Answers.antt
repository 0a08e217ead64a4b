use Rattle.std.proofs.lemmas.List.{get_or_default}
use Rattle.std.proofs.lemmas.List.Elements.{all_zip_more}
use Rattle.hpf_map.specs.Composed.{IsPlain}
use Rattle.hpf_map.proofs.plain.all_plain.Goals as goal

pub loop-image-preserved : goal.loop-image-preserved
loop-image-preserved c =
    rw (c.in_ok-push.ensures.items)
    (all_zip_more (IsPlain c.args.array.now) c.args.images.now c.loop-image.all.items c.loop-image.image-index _ c.plain.result
    c.loop-image-test.true (get_or_default c.args.images.now c.loop-image.image-index _ _ c.loop-image-test.true) c.loop-image.invariant c.plain.ensures)
