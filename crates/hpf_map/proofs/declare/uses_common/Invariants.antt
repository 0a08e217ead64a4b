use Rattle.std.proofs.Common.{◌≡◌, ◌==◌, false, length, map, take}
use Rattle.std.specs.List.{list_any}
use Rattle.hpf_syntax.specs.Plain.{declared_tree}
use Rattle.hpf_map.proofs.declare.uses_common.Given as goal

abbrev pub invariant-loop-declared : goal.invariant-loop-declared
invariant-loop-declared l = list_any (λ d. length d.shape == 0) (map declared_tree (take l.declared-index l.list)) ≡ false
