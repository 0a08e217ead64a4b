use Rattle.std.proofs.Common.{◌≡◌, map, take}
use Rattle.hpf_num.specs.Run.{integers}
use Rattle.hpf_own.proofs.Boxes.{passing}
use Rattle.hpf_own.proofs.Parts.{near}
use Rattle.hpf_own.proofs.mapping.Mapping.held.Given as goal

abbrev pub invariant-loop-d : goal.invariant-loop-d
invariant-loop-d l = l.sides.items ≡ passing (near l.self.shadow l.side-items) (take l.d (map integers l.self.bounds))
