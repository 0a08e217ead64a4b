use Rattle.std.specs.Prelude.{◌≡◌, map, take}
use Rattle.hpf_map.specs.Spaces.{run_of}
use Rattle.hpf_map.proofs.mapped.runs.Given as goal

abbrev pub invariant-loop-span : goal.invariant-loop-span
invariant-loop-span l = l.runs.items ≡ map run_of (take l.span-index l.array)
