use Rattle.std.proofs.Common.{◌≡◌, map, take, length}
use Rattle.hpf_request.specs.Parts.{IsWithin}
use Rattle.hpf_request.proofs.Placed.{index_at}
use Rattle.hpf_request.proofs.form.part_of.Given as goal

abbrev pub invariant-loop-k : goal.invariant-loop-k
invariant-loop-k l = record {
  unmarked : l.part.mark ≡ 0;
  within : IsWithin (length l.all.indices) l.part;
  places : map (index_at l.all.indices) l.part.positions ≡ take l.k l.held.indices;
}
