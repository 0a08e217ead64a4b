use Rattle.std.proofs.Common.{◌≡◌, List, ap, sym, ◌∙◌, arith}
use Rattle.hpf_sched.specs.declared.step.Move.{Move}
use Rattle.hpf_sched.specs.Moves.{runs}
use Rattle.hpf_sched.proofs.Runs.{runs_are}
use Rattle.hpf_sched.proofs.route.Route.steps.Goals as goal

pub returns : goal.returns
returns c =
    let r : runs c.args.self.now ≡ c.self.inside.steps.items = ap (λ (ms : List Move). runs ms) (sym c.self.view_is) ∙ runs_are c.self.inside.steps.items c.self.invariant.longest in
    rw r (omega (arith, c.self.inside.steps.ok.0))
