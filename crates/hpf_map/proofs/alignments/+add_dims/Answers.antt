use Rattle.std.proofs.Common.{◌≤◌, ◌+◌, ◌-◌, List, ℕ, ◌++◌, sym, ap, ◌∙◌, append_assoc, rules, [], ◌∷◌}
use Rattle.std.specs.List.{range_with_len}
use Rattle.hpf_map.proofs.AlignmentLemmas.{dims_more}
use Rattle.hpf_map.proofs.alignments.+add_dims.Goals as goal

pub returns : goal.returns
returns t c =
    let rest = range_with_len (c.args.d + 1) (c.args.count - 1) in
    let some : 1 ≤ c.args.count = search rules in
    c.in_ok-add_dims.ensures ∙ ap (λ (l : List ℕ). l ++ rest) c.in_ok-push.ensures.items ∙ append_assoc c.args.dims.now.items (c.args.d ∷ []) rest
    ∙ ap (λ (l : List ℕ). c.args.dims.now.items ++ l) (sym (dims_more c.args.d c.args.count some))
