use Rattle.std.proofs.Common.{◌≡◌, ◌≤◌, map, take}
use Rattle.hpf_syntax.specs.Plain.{format_tree}
use Rattle.hpf_map.specs.Distributions.{divided}
use Rattle.hpf_map.proofs.distributions.divided.Given as goal

abbrev pub invariant-loop-format : goal.invariant-loop-format
invariant-loop-format l = record {
  counted : l.count ≡ divided (map format_tree (take l.format-index l.formats));
  few : l.count ≤ l.format-index;
}
