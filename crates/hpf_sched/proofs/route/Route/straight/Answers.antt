use Rattle.std.proofs.Common.{◌≡◌, [], ◌∷◌, ◌∙◌, ap, Vec, Global}
use Rattle.hpf_sched.specs.declared.step.Step.{Step}
use Rattle.hpf_sched.proofs.Runs.{step_of, straight_kept, none_kept}
use Rattle.hpf_sched.proofs.route.Route.straight.Goals as goal
use Rattle.hpf_sched.proofs.route.Route.straight.Goals.{then-count-gt0+in_ok-push, else-count-gt0}

pub invariant_of-result : goal.invariant_of-result
invariant_of-result c =
    elim c.if-count-gt0.branch [
      | then-count-gt0+in_ok-push w ↦
          let is : c.if-count-gt0.steps.items ≡ step_of 0 0 c.args.count ∷ [] = ap (λ (v : Vec Step Global). v.items) w.steps-is ∙ (rw c.new-steps.ensures.items at w.in_ok-push.ensures.items) in
          rw is (straight_kept c.args.count w.if-count-gt0.true)
      | else-count-gt0 w ↦
          let is : c.if-count-gt0.steps.items ≡ [] = ap (λ (v : Vec Step Global). v.items) w.steps-is ∙ c.new-steps.ensures.items in
          rw is (none_kept c.args.count w.if-count-gt0.false)
    ]
