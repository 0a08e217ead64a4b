use Rattle.std.proofs.Common.{◌≡◌, List, Some, ap, sym, ◌∙◌, arith}
use Rattle.hpf_sched.specs.declared.step.Step.{Step}
use Rattle.std.proofs.lemmas.Option.{slice_get-get_or}
use Rattle.hpf_sched.specs.declared.step.Move.{Move}
use Rattle.hpf_sched.specs.Moves.{runs}
use Rattle.hpf_sched.proofs.Runs.{runs_are}
use Rattle.hpf_sched.proofs.route.Route.step.Goals as goal

pub index-requires : goal.index-requires
index-requires c =
    let r : runs c.args.self.now ≡ c.self.inside.steps.items = ap (λ (ms : List Move). runs ms) (sym c.self.view_is) ∙ runs_are c.self.inside.steps.items c.self.invariant.longest in
    let h = rw r at c.requires in
    omega (arith, c.self.inside.steps.ok.0)

pub returns : goal.returns
returns c =
    let r : runs c.args.self.now ≡ c.self.inside.steps.items = ap (λ (ms : List Move). runs ms) (sym c.self.view_is) ∙ runs_are c.self.inside.steps.items c.self.invariant.longest in
    let h = rw r at c.requires in
    rw r (slice_get-get_or c.self.inside.steps.items c.args.k c.index.result.now (omega (arith, c.self.inside.steps.ok.0)) ∙ ap (λ (s : Step). Some s) (sym c.index.ensures))
