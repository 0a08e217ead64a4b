use Rattle.std.proofs.Common.{subst}
use Rattle.hpf_map.specs.Composed.{ArePlain}
use Rattle.hpf_map.proofs.LandingLemmas.{goes_on}
use Rattle.hpf_map.proofs.landings.onward.Goals as goal

pub all_composed-requires : goal.all_composed-requires
all_composed-requires c =
    let plain : ArePlain c.args.array.now c.args.images.now c.in_ok-first.first.items = subst (λ is. ArePlain c.args.array.now is c.in_ok-first.first.items) c.as_slice.ensures c.in_ok-first.ensures in
    rw (c.as_slice-second.ensures, c.as_slice-2.ensures.value)
    (goes_on c.args.array.now c.args.images.now c.in_ok-first.first.items c.args.landing.now.images c.requires plain)
