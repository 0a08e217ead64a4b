use Rattle.std.proofs.Common.{ap, ◌∙◌}
use Rattle.hpf_map.specs.Dealing.{sized_breaches}
use Rattle.hpf_map.specs.Found.{least_with}
use Rattle.hpf_map.specs.Seen.{seen}
use Rattle.hpf_map.specs.Spaces.{shape_of}
use Rattle.hpf_map.specs.declared.role.Role.TheVariants as role
use Rattle.hpf_map.proofs.FoundLemmas.{each_more}
use Rattle.hpf_map.proofs.dealing.test_each_sized.Goals as goal

pub loop-distributee-preserved : goal.loop-distributee-preserved
loop-distributee-preserved c =
    let dealt = seen c.args.dealing.now in
    each_more (λ distributee. sized_breaches dealt (shape_of dealt.names role.Mapped distributee.word)) c.args.distributees.now c.loop-distributee.distributee-index c.distributee-item.result _ _ _
    c.loop-distributee-test.true c.distributee-item.is c.loop-distributee.invariant
    (c.test_sized.ensures ∙ ap (λ s. least_with c.loop-distributee.breaches (sized_breaches dealt s)) c.shape_of-shape.ensures.shape)
