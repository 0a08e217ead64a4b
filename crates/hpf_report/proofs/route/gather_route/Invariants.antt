use Rattle.std.proofs.Common.{◌≡◌, ◌++◌, take, Ok}
use Rattle.std.specs.List.{flat_map}
use Rattle.hpf_sched.specs.Moves.{runs}
use Rattle.hpf_report.specs.Gathers.{Gathers}
use Rattle.hpf_report.specs.RouteText.{route_line, run_line}
use Rattle.hpf_report.proofs.route.gather_route.Given as goal

abbrev pub invariant-loop-k : goal.invariant-loop-k
invariant-loop-k g l = record {
  so_far : Gathers (g.K.Sink.state l.fn.out) (g.K.Sink.state l.out) l.fn.gathered.bytes l.gathered.bytes (Ok tt) (route_line l.hop l.p l.q l.route ++ flat_map run_line (take l.k (runs l.route)));
}
