use Rattle.std.specs.Prelude.{map}
use Rattle.hpf_syntax.specs.Plain.{item_tree}
use Rattle.hpf_map.proofs.ResolveLemmas.{AreFirst}
use Rattle.hpf_map.proofs.mappings.Mapper.all_mappings.Given as goal

abbrev pub invariant-loop-n : goal.invariant-loop-n
invariant-loop-n l = AreFirst (map item_tree l.self.items.now) l.n l.mappings.items
