use Rattle.std.proofs.Common.{◌≡◌, false, map, take}
use Rattle.std.specs.List.{list_any}
use Rattle.hpf_syntax.specs.Plain.{item_tree}
use Rattle.hpf_request.specs.Stages.{is_stage}
use Rattle.hpf_request.proofs.stages.has_stage.Given as goal

abbrev pub invariant-loop-item : goal.invariant-loop-item
invariant-loop-item l = list_any is_stage (map item_tree (take l.item-index l.items)) ≡ false
