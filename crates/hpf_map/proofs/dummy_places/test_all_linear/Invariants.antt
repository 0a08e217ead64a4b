use Rattle.std.proofs.Common.{◌≡◌, map, take, Some}
use Rattle.std.specs.List.{flat_map}
use Rattle.hpf_syntax.specs.Plain.{sub_tree}
use Rattle.hpf_map.specs.Dummies.{linear_breaches}
use Rattle.hpf_map.specs.Found.{least_with}
use Rattle.hpf_map.specs.Hidden.{hides}
use Rattle.hpf_map.proofs.dummy_places.test_all_linear.Given as goal

abbrev pub invariant-loop-sub : goal.invariant-loop-sub
invariant-loop-sub l =
    l.breaches ≡ least_with l.initial.breaches (flat_map (linear_breaches (hides (Some l.dummies))) (map sub_tree (take l.sub-index l.subs)))
