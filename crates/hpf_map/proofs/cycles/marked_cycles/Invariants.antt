use Rattle.hpf_map.proofs.CycleLemmas.{IsMarked}
use Rattle.hpf_map.proofs.cycles.marked_cycles.Given as goal

abbrev pub invariant-loop-name : goal.invariant-loop-name
invariant-loop-name l = IsMarked l.ways l.name l.marks.items
