use Rattle.std.proofs.Common.{◌≡◌, map, take}
use Rattle.std.specs.List.{flat_map}
use Rattle.hpf_syntax.specs.Plain.{tree}
use Rattle.hpf_map.specs.Found.{least_with}
use Rattle.hpf_map.specs.Gathered.{all_of}
use Rattle.hpf_map.specs.Values.{value, expression_breaches}
use Rattle.hpf_map.proofs.lines.read_entries.Given as goal

abbrev pub invariant-loop-e : goal.invariant-loop-e
invariant-loop-e l = record {
  values : l.values ≡ all_of (map (value l.scope) (map tree (take l.e-index l.list)));
  breaches : l.breaches ≡ least_with l.initial.breaches (flat_map (expression_breaches l.scope) (map tree (take l.e-index l.list)));
}
