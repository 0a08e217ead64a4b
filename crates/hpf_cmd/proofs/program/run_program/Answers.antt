use Rattle.std.proofs.Common.{refl}
use Rattle.hpf_stream.specs.Outside.{moment}
use Rattle.hpf_cmd.proofs.program.run_program.Goals as goal

pub returns : goal.returns
returns g c = record {
  end = c.call-status.result;
  called = moment c.call-status.new.frames c.call-status.new.out c.call-status.new.notes;
  call = c.call-status.ensures;
  frames = refl;
  out = refl;
  told = c.report.ensures.line;
  number = c.report.ensures.number;
}
