use Rattle.hpf_map.proofs.ShadowLemmas.{AreFound}
use Rattle.hpf_map.proofs.shadows.first_statements.Given as goal

abbrev pub invariant-loop-used : goal.invariant-loop-used
invariant-loop-used l = AreFound l.uses l.used-index l.first l.initial.breaches l.breaches
