use Rattle.std.proofs.Common.{◌≡◌, map, take}
use Rattle.hpf_num.specs.Run.{extent}
use Rattle.hpf_request.proofs.form.extents_of.Given as goal

abbrev pub invariant-loop-run : goal.invariant-loop-run
invariant-loop-run l = l.extents.items ≡ map extent (take l.run-index l.run-items)
