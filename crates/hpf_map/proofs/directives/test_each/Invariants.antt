use Rattle.std.proofs.Common.{◌≡◌, map, take}
use Rattle.std.specs.List.{flat_map}
use Rattle.hpf_map.specs.Found.{least_with}
use Rattle.hpf_map.proofs.directives.test_each.Given as goal

abbrev pub invariant-loop-part : goal.invariant-loop-part
invariant-loop-part g l =
    l.breaches ≡ least_with l.initial.breaches (flat_map (g.P.Part.found l.scope) (map g.P.Part.tree (take l.part-index l.parts)))
