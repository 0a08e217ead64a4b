use Rattle.std.proofs.Common.{◌≡◌, ℕ, ◌+◌, ◌<◌, ◌^◌, List, length, get_or, arith, rules, ap, ◌∙◌}
use Rattle.hpf_dist.specs.Sums.{sum_of_first, sums}
use Rattle.hpf_dist.proofs.Alike.{block_is, around_block}
use Rattle.hpf_dist.proofs.Blocks.{sums_at, length-sums}
use Rattle.hpf_dist.proofs.lengths.Lengths.around.Goals as goal

pub index-requires : goal.index-requires
index-requires c =
    let ends : c.self.inside.ends.items ≡ sums c.args.self.now = c.self.invariant ∙ ap (λ (items : List ℕ). sums items) c.self.view_is in
    omega (arith, ap (λ (xs : List ℕ). length xs) ends, length-sums c.args.self.now, c.block_of-block.ensures.below)

-- the end of the block is behind the position
past : (items ends : List ℕ) (x block end : ℕ) → ends ≡ sums items → block < length items → x < sum_of_first items (block + 1) → end ≡ get_or ends block end → x < end
past items ends x block end sums_are within to at =
    omega (arith, at ∙ ap (λ (xs : List ℕ). get_or xs block end) sums_are ∙ sums_at items block end within)

pub overflow_sub-above : goal.overflow_sub-above
overflow_sub-above c =
    let ends : c.self.inside.ends.items ≡ sums c.args.self.now = c.self.invariant ∙ ap (λ (items : List ℕ). sums items) c.self.view_is in
    let b = c.block_of-block.ensures in
    omega (arith, past c.args.self.now c.self.inside.ends.items c.args.before c.block_of-block.result c.index.result.now ends b.below b.to c.index.ensures)

pub overflow_sub-above-2 : goal.overflow_sub-above-2
overflow_sub-above-2 c =
    let ends : c.self.inside.ends.items ≡ sums c.args.self.now = c.self.invariant ∙ ap (λ (items : List ℕ). sums items) c.self.view_is in
    let b = c.block_of-block.ensures in
    omega (arith, c.from.ensures, past c.args.self.now c.self.inside.ends.items c.args.before c.block_of-block.result c.index.result.now ends b.below b.to c.index.ensures)

pub overflow_cast-result : goal.overflow_cast-result
overflow_cast-result c =
    let ends : c.self.inside.ends.items ≡ sums c.args.self.now = c.self.invariant ∙ ap (λ (items : List ℕ). sums items) c.self.view_is in
    let b = c.block_of-block.ensures in
    let small : c.index-2.result.now < 2 ^ 32 = search rules in
    let h = block_is c.args.self.now c.self.inside.ends.items c.self.inside.items.items c.args.before c.block_of-block.result c.index.result.now c.index-2.result.now ends c.self.view_is b.below b.from b.to c.index.ensures c.index-2.ensures small in
    record { fits = omega (arith, c.from.ensures, h.whole, h.from, h.to, h.small) }

pub overflow_sub-result-2 : goal.overflow_sub-result-2
overflow_sub-result-2 c =
    let ends : c.self.inside.ends.items ≡ sums c.args.self.now = c.self.invariant ∙ ap (λ (items : List ℕ). sums items) c.self.view_is in
    let b = c.block_of-block.ensures in
    let small : c.index-2.result.now < 2 ^ 32 = search rules in
    let h = block_is c.args.self.now c.self.inside.ends.items c.self.inside.items.items c.args.before c.block_of-block.result c.index.result.now c.index-2.result.now ends c.self.view_is b.below b.from b.to c.index.ensures c.index-2.ensures small in
    omega (arith, c.from.ensures, c.from-length.ensures, h.whole, h.from, h.to)

pub overflow_cast-result-2 : goal.overflow_cast-result-2
overflow_cast-result-2 c =
    let ends : c.self.inside.ends.items ≡ sums c.args.self.now = c.self.invariant ∙ ap (λ (items : List ℕ). sums items) c.self.view_is in
    let b = c.block_of-block.ensures in
    let small : c.index-2.result.now < 2 ^ 32 = search rules in
    let h = block_is c.args.self.now c.self.inside.ends.items c.self.inside.items.items c.args.before c.block_of-block.result c.index.result.now c.index-2.result.now ends c.self.view_is b.below b.from b.to c.index.ensures c.index-2.ensures small in
    record { fits = omega (arith, c.from.ensures, h.whole, h.from, h.to, h.small) }

pub returns : goal.returns
returns c =
    let ends : c.self.inside.ends.items ≡ sums c.args.self.now = c.self.invariant ∙ ap (λ (items : List ℕ). sums items) c.self.view_is in
    let b = c.block_of-block.ensures in
    let small : c.index-2.result.now < 2 ^ 32 = search rules in
    let h = block_is c.args.self.now c.self.inside.ends.items c.self.inside.items.items c.args.before c.block_of-block.result c.index.result.now c.index-2.result.now ends c.self.view_is b.below b.from b.to c.index.ensures c.index-2.ensures small in
    λ n few. rw (c.from.ensures, c.from-length.ensures) (around_block c.args.self.now n c.args.before c.block_of-block.result c.index.result.now c.index-2.result.now few h)
