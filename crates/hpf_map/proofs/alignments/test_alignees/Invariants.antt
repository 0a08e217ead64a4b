use Rattle.std.proofs.Common.{◌≡◌, take, map}
use Rattle.std.specs.Prelude.{option_map}
use Rattle.std.specs.List.{flat_map}
use Rattle.hpf_syntax.specs.Plain.{sub_tree}
use Rattle.hpf_map.specs.Alignments.{alignee_breaches}
use Rattle.hpf_map.specs.Found.{least_with}
use Rattle.hpf_map.proofs.alignments.test_alignees.Given as goal

abbrev pub invariant-loop-alignee : goal.invariant-loop-alignee
invariant-loop-alignee l =
    l.breaches ≡ least_with l.initial.breaches
    (flat_map (alignee_breaches l.names l.sources l.base (option_map (map sub_tree) l.subs) l.said) (take l.alignee-index l.alignees))
