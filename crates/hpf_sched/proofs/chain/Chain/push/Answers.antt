use Rattle.std.proofs.Common.{◌≡◌, ℕ, ◌+◌, ◌-◌, ◌<◌, ◌∷◌, [], ◌++◌, List, length, get_or, sym, ap, ◌∙◌, arith}
use Rattle.std.proofs.lemmas.List.{get_or_default}
use Rattle.std.proofs.lemmas.Bool.{false≢true}
use Rattle.hpf_sched.specs.declared.step.Step.{Step}
use Rattle.hpf_sched.specs.Moves.{AreLongest}
use Rattle.hpf_sched.proofs.Runs.{step_of, pushed_longer, pushed_longest, pushed_more, pushed_first}
use Rattle.hpf_sched.proofs.chain.Chain.push.Goals as goal
use Rattle.hpf_sched.proofs.chain.Chain.push.Goals.{else-count-gt0-via-then-count-gt0+else-ends_at, else-count-gt0-via-else-count-gt0}

pub invariant_of-self : goal.invariant_of-self
invariant_of-self c =
    let steps = c.self.inside.steps.items in
    let size : c.len-count.result ≡ length steps = omega (arith, c.self.inside.steps.ok.0) in
    pushed_longest steps c.len-count.result c.index_mut.result.now size c.if-count-gt0.true c.index_mut.ensures.value c.self.invariant

same_at : (steps : List Step) (k : ℕ) (r s : Step) → r ≡ get_or steps k r → s ≡ get_or steps k s → k < length steps → r ≡ s
same_at steps k r s e d below = e ∙ get_or_default steps k r s below ∙ sym d

pub returns-then-ends_at : goal.returns-then-ends_at
returns-then-ends_at c =
    let steps = c.self.inside.steps.items in
    let size : c.len-count.result ≡ length steps = omega (arith, c.self.inside.steps.ok.0) in
    let r = c.index_mut.result.now in
    let same : c.index.result.now ≡ r = same_at steps (c.len-count.result - 1) c.index.result.now r c.index.ensures c.index_mut.ensures.value (omega arith) in
    let ends = c.ends_at.ensures.0 c.if-ends_at.true in
    pushed_longer steps c.args.self.now c.len-count.result r c.args.from c.args.to size c.if-count-gt0.true c.self.view_is c.index_mut.ensures.value
    (ends.0 ∙ ap (λ (s : Step). s.from + s.length) same) (ends.1 ∙ ap (λ (s : Step). s.to + s.length) same)

pub invariant_of-self-2 : goal.invariant_of-self-2
invariant_of-self-2 c =
    let steps = c.self.inside.steps.items in
    let size : c.len-count.result ≡ length steps = omega (arith, c.self.inside.steps.ok.0) in
    let new : AreLongest (steps ++ step_of c.args.from c.args.to 1 ∷ []) =
    elim c.else-count-gt0.branch [
      | else-count-gt0-via-then-count-gt0+else-ends_at w ↦ pushed_more steps c.len-count.result w.index.result.now c.args.from c.args.to size w.if-count-gt0.true w.index.ensures
          (λ e. false≢true (sym w.if-ends_at.false ∙ w.ends_at.ensures.1 e)) c.self.invariant
      | else-count-gt0-via-else-count-gt0 w ↦ pushed_first steps c.len-count.result c.args.from c.args.to size w.if-count-gt0.false
    ] in
    rw c.in_ok-push.ensures.items new
