use Rattle.hpf_own.specs.Space.{indices}
use Rattle.hpf_own.specs.Owners.{owns}
use Rattle.hpf_own.specs.Held.{is_held}
use Rattle.hpf_own.proofs.Standing.{kept_at}
use Rattle.hpf_own.proofs.laws.local_places.Goals as goal

pub returns-clause-owned : goal.returns-clause-owned
returns-clause-owned c = λ m p k e below h. kept_at (owns m p) (indices m.bounds) k e below h

pub returns-clause-held : goal.returns-clause-held
returns-clause-held c = λ m p k e below h. kept_at (is_held m p) (indices m.bounds) k e below h
