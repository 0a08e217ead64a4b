use Rattle.std.proofs.Common.{◌≡◌, map, take}
use Rattle.hpf_syntax.specs.Plain.{item_tree}
use Rattle.hpf_map.specs.Ways.{uses_from}
use Rattle.hpf_map.proofs.uses_that_map.uses_in.Given as goal

abbrev pub invariant-loop-statement : goal.invariant-loop-statement
invariant-loop-statement l = l.uses.items ≡ uses_from l.names 0 (map item_tree (take l.statement l.items))
