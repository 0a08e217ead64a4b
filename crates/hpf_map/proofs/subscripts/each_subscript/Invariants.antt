use Rattle.std.proofs.Common.{◌≡◌, map, take, Some}
use Rattle.std.specs.List.{flat_map}
use Rattle.hpf_syntax.specs.Plain.{sub_tree}
use Rattle.hpf_map.specs.Found.{least_with}
use Rattle.hpf_map.specs.Gathered.{all_of}
use Rattle.hpf_map.specs.Hidden.{hides}
use Rattle.hpf_map.specs.Subscripts.{subscript_of, subscript_form_breaches}
use Rattle.hpf_map.proofs.subscripts.each_subscript.Given as goal

abbrev pub invariant-loop-sub : goal.invariant-loop-sub
invariant-loop-sub l = record {
  said : l.said ≡ all_of (map (subscript_of l.scope (hides (Some l.dummies))) (map sub_tree (take l.sub-index l.subs)));
  breaches :
      l.breaches ≡ least_with l.initial.breaches (flat_map (subscript_form_breaches l.scope (hides (Some l.dummies))) (map sub_tree (take l.sub-index l.subs)));
}
