use Rattle.hpf_map.specs.Ways.{step}
use Rattle.hpf_map.proofs.WalkLemmas.{IsTable}
use Rattle.hpf_map.proofs.walk.Walk.step.Given as goal

abbrev pub invariant-loop-name : goal.invariant-loop-name
invariant-loop-name l = IsTable (step l.ways) l.targets.items l.name
