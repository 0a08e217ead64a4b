use Rattle.std.specs.Prelude.{ℕ, ◌≡◌, ◌<◌, length}
use Rattle.hpf_map.specs.declared.way.Way.TheVariants.{Distributed}
use Rattle.hpf_map.specs.Landings.{AreLandings, IsSettled}
use Rattle.hpf_map.specs.Ways.{way_at, walk_end}
use Rattle.hpf_map.proofs.landings.all_landings.Given as goal

abbrev pub invariant-loop-n : goal.invariant-loop-n
invariant-loop-n l = (length l.landings.items ≡ length l.names) × AreLandings l.names l.ways l.direct l.landings.items
    × ((n k : ℕ) → n < l.n → way_at l.ways (walk_end l.ways n) ≡ Distributed k → IsSettled l.landings.items n)
