-- The images of an alignment, dimension by dimension.
use Rattle.std.proofs.Common.{◌≡◌, ℕ, zero, suc, ◌+◌, ◌-◌, ◌≤◌, List, ◌∷◌, length, map, take, sym, ap, arith}
use Rattle.std.specs.List.{range_with_len}
use Rattle.std.specs.Prelude.{replicate}
use Rattle.std.proofs.lemmas.List.{length-map, take-replicate}
use Rattle.hpf_map.specs.declared.subscript.Subscript.{Subscript}
use Rattle.hpf_syntax.specs.declared.tree.SubItem.{SubItem}
use Rattle.hpf_syntax.specs.Plain.{sub_tree}

-- so many numbers are the first and the others
pub dims_more : (d n : ℕ) → 1 ≤ n → range_with_len d n ≡ d ∷ range_with_len (d + 1) (n - 1)
dims_more d zero h = absurd (omega (arith, h))
dims_more d (suc n) h =
    let less : suc n - 1 ≡ n = omega arith in
    ap (λ m. d ∷ range_with_len (d + 1) m) (sym less)

pub subscripts_seen : (subs : List SubItem) → length (map sub_tree subs) ≡ length subs
subscripts_seen subs = simp length-map

pub some_of_seven : (rank : ℕ) (x : Subscript) → rank ≤ 7 → take rank (replicate 7 x) ≡ replicate rank x
some_of_seven rank x few = take-replicate rank 7 x few
