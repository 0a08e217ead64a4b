-- Lines of a pipeline that are gathered or noted one after another.
use Rattle.std.proofs.Common.{◌≡◌, ℕ, ◌+◌, ◌<◌, ◌≤◌, List, [], ◌++◌, length, get_or, take, drop, map, sym, ap, ◌∙◌}
use Rattle.std.specs.List.{flat_map}
use Rattle.std.proofs.lemmas.List.{drop_all}
use Rattle.hpf_syntax.specs.declared.tree.Spot.{Spot}
use Rattle.hpf_map.specs.Pipeline.{first_spot_breach}
use Rattle.hpf_map.proofs.FoundLemmas.{flat_map-map-take_more}

-- what is found in one more of a list, of which each is seen as something else
pub found_more : {A B C : Type 0} (see : A → B) (f : B → List C) (xs : List A) (i : ℕ) (x : A) (before after : List C)
    → i < length xs → x ≡ get_or xs i x → before ≡ flat_map f (map see (take i xs)) → after ≡ before ++ f (see x)
    → after ≡ flat_map f (map see (take (i + 1) xs))
found_more see f xs i x before after below is b step =
    step ∙ ap (λ l. l ++ f (see x)) b ∙ sym (flat_map-map-take_more see f xs i x below is)

-- no line is too many
pub none_too_many : (lines : List Spot) → length lines ≤ 16 → first_spot_breach (drop 16 lines) ≡ []
none_too_many lines few = ap first_spot_breach (drop_all 16 lines few)
