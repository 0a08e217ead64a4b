use Rattle.std.proofs.Common.{◌≡◌, map}
use Rattle.std.specs.List.{range_with_len}
use Rattle.hpf_syntax.specs.Plain.{item_tree}
use Rattle.hpf_map.specs.Direct.{images_along}
use Rattle.hpf_map.specs.Ways.{way_at}
use Rattle.hpf_map.proofs.direct.direct_images.Given as goal

abbrev pub invariant-loop-n : goal.invariant-loop-n
invariant-loop-n l = l.direct.items ≡ map (λ m. images_along l.names (map item_tree l.items) m (way_at l.ways m)) (range_with_len 0 l.n)
