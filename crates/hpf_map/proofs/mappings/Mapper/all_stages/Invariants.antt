use Rattle.std.specs.Prelude.{map, take}
use Rattle.std.specs.List.{AllZip}
use Rattle.hpf_syntax.specs.Plain.{item_tree}
use Rattle.hpf_map.specs.Mappings.{IsStageOf}
use Rattle.hpf_map.proofs.mappings.Mapper.all_stages.Given as goal

abbrev pub invariant-loop-line : goal.invariant-loop-line
invariant-loop-line l = AllZip (IsStageOf (map item_tree l.self.items.now)) (take l.line-index l.lines) l.stages.items
