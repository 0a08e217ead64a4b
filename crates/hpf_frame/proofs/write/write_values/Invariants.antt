use Rattle.std.proofs.Common.{length, List, ℕ, ◌≡◌, ◌++◌, Ok}
use Rattle.std.specs.List.{flat_map}
use Rattle.hpf_io.specs.Writes.{Writes}
use Rattle.hpf_frame.specs.FrameFile.{version_one, element}
use Rattle.hpf_frame.proofs.write.write_values.Given as goal

-- what was written and what is left make up all
abbrev pub invariant-loop-rest : goal.invariant-loop-rest
invariant-loop-rest g l =
    (done : List ℕ) × Writes (g.K.Sink.state l.fn.out) (g.K.Sink.state l.out) (Ok tt) done × (flat_map (element version_one) l.fn.values ≡ done ++ flat_map (element version_one) l.rest)

abbrev pub decreases-loop-rest : goal.decreases-loop-rest
decreases-loop-rest g l = length l.rest
