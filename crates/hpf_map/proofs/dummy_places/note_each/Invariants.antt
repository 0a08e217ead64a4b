use Rattle.std.proofs.Common.{◌≡◌, take}
use Rattle.hpf_map.specs.Constraint.{breaches_at}
use Rattle.hpf_map.specs.Found.{least_with}
use Rattle.hpf_map.proofs.dummy_places.note_each.Given as goal

abbrev pub invariant-loop-spot : goal.invariant-loop-spot
invariant-loop-spot l = l.breaches ≡ least_with l.initial.breaches (breaches_at l.constraint (take l.spot-index l.spots))
