use Rattle.std.proofs.Common.{sym, ◌∙◌}
use Rattle.hpf_map.proofs.ResolveLemmas.{none_found}
use Rattle.hpf_map.proofs.resolution.resolve.Goals as goal

pub program_of-requires-clause-none : goal.program_of-requires-clause-none
program_of-requires-clause-none c = none_found _ _ _ c.new-breaches.ensures c.in_ok-checked.ensures.breaches (sym c.least.ensures ∙ c.in-None.is)
