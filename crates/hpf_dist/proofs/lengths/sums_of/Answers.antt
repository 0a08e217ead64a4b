use Rattle.std.proofs.Common.{◌≡◌, ◌∙◌, ℕ, ◌+◌, List, [], ◌∷◌, ◌++◌, sym, ap, arith}
use Rattle.std.proofs.lemmas.List.FromFn.{map-range_with_len_more}
use Rattle.std.proofs.lemmas.List.Sums.{sum_by_more}
use Rattle.hpf_dist.specs.Sums.{sum_of_first}
use Rattle.hpf_dist.proofs.lengths.sums_of.Goals as goal

pub loop-item-preserved : goal.loop-item-preserved
loop-item-preserved c =
    let items = c.args.items.now in
    let k = c.loop-item.item-index in
    let end = c.loop-item.end + c.from-end.result in
    let more = sum_by_more (λ (x : ℕ). x) items k 0 c.loop-item-test.true in
    let next = map-range_with_len_more (λ k. sum_of_first items (k + 1)) 0 k k (omega arith) in
    let end_is : end ≡ sum_of_first items (k + 1) = omega (arith, more, c.from-end.ensures, c.loop-item.invariant.end_is) in
    record {
      end_is = end_is;
      small = omega (arith, c.from-end.ensures, c.from-end.type_inv, c.type_inv.items k, c.loop-item.invariant.small);
      ends = c.in_ok-push.ensures.items ∙ (ap (λ (xs : List ℕ). xs ++ end ∷ []) c.loop-item.invariant.ends ∙ (rw end_is (sym next)));
    }
