use Rattle.std.proofs.Common.{◌≡◌, map, take}
use Rattle.std.specs.List.{flat_map}
use Rattle.hpf_syntax.specs.Plain.{width_tree}
use Rattle.hpf_map.specs.Found.{least_with}
use Rattle.hpf_map.specs.Gathered.{all_of}
use Rattle.hpf_map.specs.ShadowWidths.{width_of, width_breaches}
use Rattle.hpf_map.proofs.shadow_widths.read_shadow.Given as goal

abbrev pub invariant-loop-item : goal.invariant-loop-item
invariant-loop-item l = record {
  widths : l.widths ≡ all_of (map (width_of l.scope) (map width_tree (take l.item-index l.list)));
  breaches : l.breaches ≡ least_with l.initial.breaches (flat_map (width_breaches l.scope) (map width_tree (take l.item-index l.list)));
}
