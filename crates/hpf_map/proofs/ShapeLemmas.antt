-- The bounds that are too many.
use Rattle.std.proofs.Common.{◌≡◌, ◌≤◌, List, [], length, drop, map, ap, arith}
use Rattle.std.proofs.lemmas.List.{drop_all, length-map}
use Rattle.hpf_syntax.specs.declared.tree.Bound.{Bound}
use Rattle.hpf_syntax.specs.Plain.{bound_tree}
use Rattle.hpf_map.specs.Shapes.{first_of_more}

pub none_of_more : (bounds : List Bound) → length bounds ≤ 7 → first_of_more (drop 7 (map bound_tree bounds)) ≡ []
none_of_more bounds few =
    let same : length (map bound_tree bounds) ≡ length bounds = simp length-map in
    ap first_of_more (drop_all 7 (map bound_tree bounds) (omega arith))
