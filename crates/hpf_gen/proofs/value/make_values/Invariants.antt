use Rattle.std.proofs.Common.{◌≡◌, length, map, take}
use Rattle.std.specs.List.{range_with_len}
use Rattle.hpf_gen.specs.Generated.{value}
use Rattle.hpf_gen.proofs.value.make_values.Given as goal

abbrev pub invariant-loop-i : goal.invariant-loop-i
invariant-loop-i l = record {
  len : length l.into ≡ length l.fn.into;
  done : take l.i l.into ≡ map (value l.seed l.frame) (range_with_len l.from l.i);
}
