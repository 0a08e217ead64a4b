use Rattle.std.specs.Prelude.{ℕ, ◌≡◌, ◌<◌, length, slice_index_or}
use Rattle.hpf_map.specs.Mapped.{no_dim, cut_dim}
use Rattle.hpf_map.specs.Seen.{seen}
use Rattle.hpf_map.proofs.mapped.cut_dims.Given as goal

abbrev pub invariant-loop-e : goal.invariant-loop-e
invariant-loop-e l = record {
  count : length l.dims ≡ l.e;
  each : (k : ℕ) → k < length l.dims → slice_index_or l.dims k no_dim ≡ cut_dim (seen l.dealing) l.root l.images k;
}
