use Rattle.std.proofs.Common.{length, ◌-◌, ◌≡◌, ◌≤◌, take}
use Rattle.std.specs.List.{flat_map}
use Rattle.hpf_io.specs.Bytes.{Takes}
use Rattle.hpf_frame.specs.FrameFile.{version_one, element, AreValues}
use Rattle.hpf_frame.proofs.read.read_values.Given as goal

abbrev pub invariant-loop-filled : goal.invariant-loop-filled
invariant-loop-filled g l = record {
  within : l.filled ≤ length l.into;
  taken : Takes (g.S.Source.state l.fn.from) (g.S.Source.state l.from) (flat_map (element version_one) (take l.filled l.into));
  fits : AreValues version_one (take l.filled l.into);
  counted : (g.S.Source.state l.from).faults ≡ (g.S.Source.state l.fn.from).faults;
}

abbrev pub decreases-loop-filled : goal.decreases-loop-filled
decreases-loop-filled g l = length l.initial.into - l.filled
