use Rattle.std.proofs.Common.{refl}
use Rattle.hpf_map.proofs.ArrangementLemmas.{none_yet}
use Rattle.hpf_map.proofs.arrangements.Arrangements.none.Goals as goal

pub returns : goal.returns
returns c = none_yet _ refl refl
