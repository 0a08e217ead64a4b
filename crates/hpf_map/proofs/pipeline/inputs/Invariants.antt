use Rattle.std.proofs.Common.{◌≡◌, map, take}
use Rattle.std.specs.List.{flat_map}
use Rattle.hpf_syntax.specs.Plain.{item_tree}
use Rattle.hpf_map.specs.Pipeline.{input_of}
use Rattle.hpf_map.proofs.pipeline.inputs.Given as goal

abbrev pub invariant-loop-item : goal.invariant-loop-item
invariant-loop-item l = l.spots.items ≡ flat_map input_of (map item_tree (take l.item-index l.items))
