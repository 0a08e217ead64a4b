use Rattle.std.proofs.Common.{sym}
use Rattle.hpf_map.specs.Landings.{Here}
use Rattle.hpf_map.proofs.LandingLemmas.{onward_asked, onward_lands}
use Rattle.hpf_map.proofs.landings.landed.Goals as goal

pub here-requires-clause-sound : goal.here-requires-clause-sound
here-requires-clause-sound c = c.requires.clear.sound c.args.n c.in-Some.array.now (sym c.in-Some.ensures)

pub returns-in_ok-here-in-Distributed-clause-lands : goal.returns-in_ok-here-in-Distributed-clause-lands
returns-in_ok-here-in-Distributed-clause-lands c =
    let h = c.in_ok-here-in-Distributed.ensures in
    rw (h.base, h.statement) (Here c.args.n c.in-Distributed.statement c.in-Some.array.now c.in_ok-here-in-Distributed.field-0.images (sym c.in-Some.ensures) (sym c.in-Distributed.ensures) h.images)

pub onward-requires : goal.onward-requires
onward-requires c =
    onward_asked c.args.names.now c.args.ways.now c.args.direct.now c.args.landings.now c.args.n _ _ _ _ _ c.in-Some-at_place-2.landing.now c.requires.clear c.requires.listed
    c.in-Some.ensures c.in-Aligned-default-Some.ensures c.in-Aligned-default-Some.base-is c.in-Some-at_place.ensures c.in-Some-at_place-2.ensures

pub returns-in_ok-onward-in-Aligned-default-Some-clause-lands : goal.returns-in_ok-onward-in-Aligned-default-Some-clause-lands
returns-in_ok-onward-in-Aligned-default-Some-clause-lands c =
    let o = c.in_ok-onward-in-Aligned-default-Some.ensures in
    onward_lands c.args.names.now c.args.ways.now c.args.direct.now c.args.landings.now c.args.n _ _ _ _ _ c.in-Some-at_place-2.landing.now _ _ _ c.requires.listed
    c.in-Some.ensures c.in-Aligned-default-Some.ensures c.in-Aligned-default-Some.base-is c.in-Some-at_place.ensures c.in-Some-at_place-2.ensures o.base o.statement o.images
