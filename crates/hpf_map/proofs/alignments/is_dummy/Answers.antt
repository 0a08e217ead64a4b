use Rattle.std.proofs.Common.{◌∙◌}
use Rattle.std.specs.Cmp.Lexicographic.{texts_ties}
use Rattle.hpf_map.proofs.alignments.is_dummy.Goals as goal

pub returns-in-Dummy : goal.returns-in-Dummy
returns-in-Dummy c = rw c.in-Dummy.is (c.eq.ensures ∙ texts_ties c.args.word.now c.in-Dummy.dummy.word)
