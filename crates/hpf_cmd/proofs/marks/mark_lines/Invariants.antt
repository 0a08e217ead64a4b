use Rattle.std.proofs.Common.{Ok, take}
use Rattle.hpf_io.specs.Writes.{Writes}
use Rattle.hpf_request.specs.MarkLines.{lines_of}
use Rattle.hpf_cmd.proofs.marks.mark_lines.Given as goal

abbrev pub invariant-loop-proc : goal.invariant-loop-proc
invariant-loop-proc g l =
    Writes (g.N.Sink.state l.fn.notes) (g.N.Sink.state l.notes) (Ok tt) (lines_of 0 (take l.proc l.parts))
