use Rattle.std.proofs.Common.{ℕ}
use Rattle.hpf_own.specs.Space.{product}
use Rattle.hpf_own.specs.Owners.{owns}
use Rattle.hpf_own.proofs.Sends.{first_least, sender_owns}
use Rattle.hpf_own.proofs.laws.least_owner.Goals as goal

pub returns-clause-owner : goal.returns-clause-owner
returns-clause-owner c = λ m index p below h. sender_owns m p index below h

pub returns-clause-least : goal.returns-clause-least
returns-clause-least c = λ m index p below h. first_least (λ (q : ℕ). owns m q index) (product m.procs) p (product m.procs) below h
