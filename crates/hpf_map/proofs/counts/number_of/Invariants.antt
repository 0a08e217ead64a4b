use Rattle.std.proofs.Common.{◌≡◌, ◌≤◌, take}
use Rattle.hpf_map.specs.Program.{number_of}
use Rattle.hpf_map.proofs.counts.number_of.Given as goal

abbrev pub invariant-loop-name : goal.invariant-loop-name
invariant-loop-name l = record {
  counted : l.number ≡ number_of l.space (take l.name-index l.names);
  few : l.number ≤ l.name-index;
}
