use Rattle.std.specs.Prelude.{◌≡◌, None, replicate}
use Rattle.hpf_map.proofs.landings.no_landings.Given as goal

abbrev pub invariant-loop : goal.invariant-loop
invariant-loop l = l.landings.items ≡ replicate l.counter None
