use Rattle.std.proofs.Common.{◌≡◌, map, take}
use Rattle.hpf_syntax.specs.Plain.{item_tree}
use Rattle.hpf_syntax.specs.Canonical.{canonical}
use Rattle.hpf_syntax.proofs.printer.lines.Given as goal

abbrev pub invariant-loop-item : goal.invariant-loop-item
invariant-loop-item l = l.out ≡ canonical (map item_tree (take l.item-index l.items))
