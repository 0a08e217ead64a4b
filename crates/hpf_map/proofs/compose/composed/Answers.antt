use Rattle.hpf_map.proofs.MoveLemmas.{composed_along}
use Rattle.hpf_map.proofs.compose.composed.Goals as goal

pub returns-in-Along : goal.returns-in-Along
returns-in-Along c =
    composed_along c.args.array.now c.args.first.now c.args.second c.in-Along.dim c.in-Along.a c.in-Along.b _ _ c.requires c.in-Along.is c.moved.ensures
