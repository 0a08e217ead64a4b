use Rattle.std.proofs.Common.{All, sym, subst, List}
use Rattle.std.proofs.lemmas.List.Elements.{All-push}
use Rattle.hpf_own.specs.declared.image.BaseDim.{BaseDim}
use Rattle.hpf_own.specs.Mapping.{HasOwners}
use Rattle.hpf_own.proofs.base_dims.BaseDims.push.Goals as goal

pub invariant_of-self-2 : goal.invariant_of-self-2
invariant_of-self-2 c =
    let P : BaseDim → Type 0 = λ d. HasOwners d.cut in
    subst (λ (ds : List BaseDim). All P ds) (sym c.in_ok-push.ensures.items) (All-push P c.self.inside.dims.items c.args.dim c.self.invariant c.procs.ensures.owners)
