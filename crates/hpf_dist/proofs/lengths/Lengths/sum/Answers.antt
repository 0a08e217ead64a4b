use Rattle.std.proofs.Common.{◌≡◌, ◌∙◌, ℕ, List, ap}
use Rattle.hpf_dist.specs.Sums.{sums}
use Rattle.hpf_dist.proofs.Blocks.{last_sum}
use Rattle.hpf_dist.proofs.lengths.Lengths.sum.Goals as goal

pub returns-in-Some : goal.returns-in-Some
returns-in-Some c =
    let is : c.as_slice.result.now ≡ sums c.args.self.now =
    c.as_slice.ensures.value ∙ (c.self.invariant ∙ ap (λ (items : List ℕ). sums items) c.self.view_is) in
    last_sum c.args.self.now c.as_slice.result.now c.in-Some.end.now is c.in-Some.ensures.value
