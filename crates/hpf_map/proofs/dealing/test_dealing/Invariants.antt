use Rattle.std.proofs.Common.{◌≡◌, ◌≤◌, map, take}
use Rattle.std.specs.List.{flat_map, range_with_len}
use Rattle.hpf_syntax.specs.Plain.{format_tree}
use Rattle.hpf_map.specs.Dealing.{breaches_at}
use Rattle.hpf_map.specs.Distributions.{divided}
use Rattle.hpf_map.specs.Found.{least_with}
use Rattle.hpf_map.specs.Seen.{seen}
use Rattle.hpf_map.proofs.dealing.test_dealing.Given as goal

abbrev pub invariant-loop-k : goal.invariant-loop-k
invariant-loop-k l = record {
  dim : l.dim ≡ divided (map format_tree (take l.k l.dealing.formats.now));
  few : l.dim ≤ l.k;
  breaches : l.breaches ≡ least_with l.initial.breaches (flat_map (breaches_at (seen l.dealing) l.spans) (range_with_len 0 l.k));
}
