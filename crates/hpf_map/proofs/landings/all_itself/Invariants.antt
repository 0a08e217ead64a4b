use Rattle.std.specs.Prelude.{ℕ, ◌≡◌, ◌<◌, length, slice_index_or}
use Rattle.hpf_map.specs.Composed.{no_image}
use Rattle.hpf_map.specs.Landings.{IsItself}
use Rattle.hpf_map.proofs.landings.all_itself.Given as goal

abbrev pub invariant-loop-dim : goal.invariant-loop-dim
invariant-loop-dim l = (length l.images.items ≡ l.dim) × ((k : ℕ) → k < length l.images.items → IsItself l.array k (slice_index_or l.images.items k no_image))
