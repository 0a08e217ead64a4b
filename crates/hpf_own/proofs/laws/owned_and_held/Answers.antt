use Rattle.hpf_own.proofs.Standing.{owned_held, no_shadow}
use Rattle.hpf_own.proofs.laws.owned_and_held.Goals as goal

pub returns-clause-within : goal.returns-clause-within
returns-clause-within c = owned_held

pub returns-clause-no_shadow : goal.returns-clause-no_shadow
returns-clause-no_shadow c = no_shadow
