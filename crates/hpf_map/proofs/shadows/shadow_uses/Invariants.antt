use Rattle.std.proofs.Common.{◌≡◌, map, take}
use Rattle.hpf_syntax.specs.Plain.{item_tree}
use Rattle.hpf_map.specs.Shadows.{shadow_uses_from}
use Rattle.hpf_map.proofs.shadows.shadow_uses.Given as goal

abbrev pub invariant-loop-statement : goal.invariant-loop-statement
invariant-loop-statement l = l.uses.items ≡ shadow_uses_from l.names 0 (map item_tree (take l.statement l.items))
