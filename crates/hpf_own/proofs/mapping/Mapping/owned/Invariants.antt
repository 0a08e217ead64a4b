use Rattle.std.proofs.Common.{◌≡◌, map, take}
use Rattle.hpf_num.specs.Run.{integers}
use Rattle.hpf_own.specs.Side.{is_side}
use Rattle.hpf_own.proofs.Boxes.{passing}
use Rattle.hpf_own.proofs.mapping.Mapping.owned.Given as goal

abbrev pub invariant-loop-d : goal.invariant-loop-d
invariant-loop-d l = l.sides.items ≡ passing (is_side l.self l.fn.p) (take l.d (map integers l.self.bounds))
