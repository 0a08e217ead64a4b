use Rattle.std.proofs.Common.{◌≡◌, ◌*◌, drop}
use Rattle.hpf_frame.specs.FrameFile.{elements}
use Rattle.hpf_gen.proofs.generator.size_of.Given as goal

abbrev pub invariant-loop-extent : goal.invariant-loop-extent
invariant-loop-extent l = record {
  so_far : l.size * elements (drop l.extent-index l.extents) ≡ elements l.extents;
}
