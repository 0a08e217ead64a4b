use Rattle.std.proofs.Common.{◌≡◌, take, Some}
use Rattle.hpf_map.specs.Dummies.{seen_breaches}
use Rattle.hpf_map.specs.Found.{least_with}
use Rattle.hpf_map.specs.Hidden.{hides}
use Rattle.hpf_map.proofs.dummy_places.test_seen.Given as goal

abbrev pub invariant-loop-spot : goal.invariant-loop-spot
invariant-loop-spot l = l.breaches ≡ least_with l.initial.breaches (seen_breaches (hides (Some l.seen)) (take l.spot-index l.spots))
