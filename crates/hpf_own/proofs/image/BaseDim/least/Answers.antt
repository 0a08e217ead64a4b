use Rattle.hpf_own.proofs.image.BaseDim.least.Goals as goal

pub returns-in-Over-clause-least : goal.returns-in-Over-clause-least
returns-in-Over-clause-least c = rw c.in-Over.is c.least.ensures.least
