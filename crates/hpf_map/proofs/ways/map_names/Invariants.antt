use Rattle.hpf_map.proofs.WayLemmas.{IsMapped}
use Rattle.hpf_map.proofs.ways.map_names.Given as goal

abbrev pub invariant-loop-used : goal.invariant-loop-used
invariant-loop-used l =
    IsMapped l.uses l.used-index l.initial.ways.items l.ways.items l.initial.first.items l.first.items l.initial.breaches l.breaches
