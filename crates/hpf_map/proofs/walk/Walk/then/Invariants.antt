use Rattle.hpf_map.specs.Ends.{target}
use Rattle.hpf_map.proofs.WalkLemmas.{IsTable}
use Rattle.hpf_map.proofs.walk.Walk.then.Given as goal

abbrev pub invariant-loop-name : goal.invariant-loop-name
invariant-loop-name l = IsTable (λ n. target l.other (target l.self n)) l.targets.items l.name
