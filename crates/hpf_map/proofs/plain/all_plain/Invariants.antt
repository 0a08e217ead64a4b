use Rattle.std.specs.Prelude.{take}
use Rattle.hpf_map.specs.Composed.{ArePlain}
use Rattle.hpf_map.proofs.plain.all_plain.Given as goal

abbrev pub invariant-loop-image : goal.invariant-loop-image
invariant-loop-image l = ArePlain l.array (take l.image-index l.images) l.all.items
