use Rattle.std.proofs.Common.{◌≡◌, ◌++◌, take, Ok}
use Rattle.std.specs.List.{flat_map}
use Rattle.hpf_report.specs.Gathers.{Gathers}
use Rattle.hpf_report.specs.PartText.{part_head, value_text}
use Rattle.hpf_report.proofs.part.gather_part.Given as goal

abbrev pub invariant-loop-value : goal.invariant-loop-value
invariant-loop-value g l = record {
  so_far : Gathers (g.K.Sink.state l.fn.out) (g.K.Sink.state l.out) l.fn.gathered.bytes l.gathered.bytes (Ok tt) (part_head l.frame l.proc ++ flat_map value_text (take l.value-index l.values));
}
