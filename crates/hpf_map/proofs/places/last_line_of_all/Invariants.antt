use Rattle.std.proofs.Common.{◌≡◌, map, take}
use Rattle.hpf_map.specs.Places.{in_all}
use Rattle.hpf_map.proofs.places.last_line_of_all.Given as goal

abbrev pub invariant-loop-thing : goal.invariant-loop-thing
invariant-loop-thing g l = l.last ≡ in_all g.T.Placed.greatest (map g.T.Placed.tree (take l.thing-index l.things))
