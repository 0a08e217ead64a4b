use Rattle.std.proofs.Common.{◌≡◌, ◌-◌, ◌^◌, take, min}
use Rattle.hpf_map.specs.Shapes.{elements}
use Rattle.hpf_map.proofs.shapes.elements.Given as goal

abbrev pub invariant-loop-span : goal.invariant-loop-span
invariant-loop-span l = l.elements ≡ min (elements (take l.span-index l.spans)) (2 ^ 64 - 1)
