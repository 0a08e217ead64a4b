use Rattle.std.proofs.Common.{◌≡◌, map, take}
use Rattle.std.specs.List.{flat_map}
use Rattle.hpf_syntax.specs.Plain.{bound_tree}
use Rattle.hpf_map.specs.Found.{least_with}
use Rattle.hpf_map.specs.Gathered.{all_of}
use Rattle.hpf_map.specs.Shapes.{span, bound_breaches}
use Rattle.hpf_map.proofs.shapes.spans.Given as goal

abbrev pub invariant-loop-bound : goal.invariant-loop-bound
invariant-loop-bound l = record {
  spans : l.spans ≡ all_of (map (span l.scope l.limit) (map bound_tree (take l.bound-index l.bounds)));
  breaches : l.breaches ≡ least_with l.initial.breaches (flat_map (bound_breaches l.scope l.limit) (map bound_tree (take l.bound-index l.bounds)));
}
