use Rattle.std.proofs.Common.{◌≡◌, sym, ap}
use Rattle.hpf_status.specs.declared.status.Status.TheVariants.{Usage}
use Rattle.hpf_request.specs.Order.{Denied, NotBuilt}
use Rattle.hpf_request.proofs.words.command_of.Goals as goal

pub returns-in-None-clause-denied : goal.returns-in-None-clause-denied
returns-in-None-clause-denied c = λ status is memory loader.
    let same : status ≡ Usage 9 = cc in
    NotBuilt c.in-Ok.line.asked c.in-Ok.line.map.now c.in-Ok.ensures.asks (sym c.in-None.ensures) (ap Denied same)
