use Rattle.std.proofs.Common.{◌≡◌, ◌∙◌, ℕ, true, false, List, leb, sym, ap, subst, arith, rules}
use Rattle.std.proofs.lemmas.List.Sorted.{IsPartitionPoint-from_clause, IsPartitionedBy-leb}
use Rattle.std.specs.List.Sorted.{IsPartitionPoint, IsNonDecreasingBy}
use Rattle.hpf_dist.specs.Sums.{sums}
use Rattle.hpf_dist.proofs.Blocks.{sums_rise, some_block, block_from, block_to}
use Rattle.hpf_dist.proofs.lengths.Lengths.block_of.Goals as goal

-- the sums up to the result are at most the position, and those from there on are more
halved : (c : goal.After-partition_point) → IsPartitionPoint (λ s. leb s c.args.before ≡ true) (λ s. leb s c.args.before ≡ false) (sums c.args.self.now) c.partition_point.result
halved c =
    let is : c.as_slice-ends.result.now ≡ sums c.args.self.now =
    c.as_slice-ends.ensures.value ∙ (c.self.invariant ∙ ap (λ (items : List ℕ). sums items) c.self.view_is) in
    let rise = subst (λ (xs : List ℕ). IsNonDecreasingBy (λ (s : ℕ). s) xs) (sym is) (sums_rise c.args.self.now) in
    let x = c.from-before.result in
    let point = IsPartitionPoint-from_clause (λ s. leb s x) _ _ c.partition_point.ensures.partitioned (IsPartitionedBy-leb (λ (s : ℕ). s) _ x rise) (λ a r q k. search rules) in
    let at : IsPartitionPoint (λ s. leb s c.args.before ≡ true) (λ s. leb s c.args.before ≡ false) c.as_slice-ends.result.now c.partition_point.result =
    subst (λ (y : ℕ). IsPartitionPoint (λ s. leb s y ≡ true) (λ s. leb s y ≡ false) c.as_slice-ends.result.now c.partition_point.result) c.from-before.ensures point in
    subst (λ (xs : List ℕ). IsPartitionPoint (λ s. leb s c.args.before ≡ true) (λ s. leb s c.args.before ≡ false) xs c.partition_point.result) is at

pub overflow_cast-result : goal.overflow_cast-result
overflow_cast-result c = omega (arith, some_block _ _ _ c.requires.within (halved c), c.requires.few)

pub returns-clause-from : goal.returns-clause-from
returns-clause-from c = block_from _ _ _ c.requires.within (halved c)

pub returns-clause-to : goal.returns-clause-to
returns-clause-to c = block_to _ _ _ c.requires.within (halved c)

pub returns-clause-below : goal.returns-clause-below
returns-clause-below c = some_block _ _ _ c.requires.within (halved c)
