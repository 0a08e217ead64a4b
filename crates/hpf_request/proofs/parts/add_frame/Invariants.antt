use Rattle.std.proofs.Common.{◌≡◌, ◌++◌, map, take, drop}
use Rattle.hpf_request.specs.Parts.{marked_by}
use Rattle.hpf_request.proofs.parts.add_frame.Given as goal

abbrev pub invariant-loop-part : goal.invariant-loop-part
invariant-loop-part l =
    l.parts ≡ map (marked_by l.number l.frame) (take l.part-index l.initial.parts) ++ drop l.part-index l.initial.parts
