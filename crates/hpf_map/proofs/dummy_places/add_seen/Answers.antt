use Rattle.std.proofs.Common.{Some}
use Rattle.std.specs.Ordering.{nat_cmp, is_eq}
use Rattle.std.specs.Cmp.Lexicographic.{slice_cmp}
use Rattle.hpf_map.specs.Hidden.{hides}
use Rattle.hpf_map.proofs.DummyLemmas.{any_more, contains_added, contains_same}
use Rattle.hpf_map.proofs.dummy_places.add_seen.Goals as goal

pub loop-spot-init : goal.loop-spot-init
loop-spot-init c = λ word. contains_same (hides (Some c.args.seen.now) word)

pub loop-spot-preserved : goal.loop-spot-preserved
loop-spot-preserved c =
    λ word. any_more (λ spot. is_eq (slice_cmp nat_cmp word spot.word)) c.args.spots.now c.loop-spot.spot-index c.spot-item.result _ _ _
    c.loop-spot-test.true c.spot-item.is (c.loop-spot.invariant word)
    (contains_added c.spot-item.result.word word _ _ (c.in_ok-insert.ensures.updates.0 word))
