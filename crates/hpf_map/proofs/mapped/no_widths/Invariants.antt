use Rattle.std.specs.Prelude.{◌≡◌, replicate}
use Rattle.hpf_own.specs.KeptLists.{no_width}
use Rattle.hpf_map.proofs.mapped.no_widths.Given as goal

abbrev pub invariant-loop : goal.invariant-loop
invariant-loop l = l.widths.items ≡ replicate l.counter no_width
