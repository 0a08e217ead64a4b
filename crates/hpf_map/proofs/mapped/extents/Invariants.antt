use Rattle.std.specs.Prelude.{◌≡◌, map, take}
use Rattle.hpf_map.specs.Shapes.{extent}
use Rattle.hpf_map.proofs.mapped.extents.Given as goal

abbrev pub invariant-loop-span : goal.invariant-loop-span
invariant-loop-span l = l.extents.items ≡ map extent (take l.span-index l.target)
