use Rattle.std.proofs.Common.{◌≡◌, sym, ap, ◌∙◌, subst, Option, List}
use Rattle.std.specs.Prelude.{IfSome, option_and_then, option_copied}
use Rattle.hpf_map.specs.declared.name.Span.{Span}
use Rattle.hpf_map.specs.Sound.{AreGood}
use Rattle.hpf_map.specs.Spaces.{meaning_shape, shape_of}
use Rattle.hpf_map.proofs.SoundLemmas.{shape_good}
use Rattle.hpf_map.proofs.spaces.shape_of.Goals as goal

pub returns-in-Some-clause-good : goal.returns-in-Some-clause-good
returns-in-Some-clause-good c =
    let is : option_copied c.meaning_shape.result ≡ shape_of c.args.names.now c.args.role c.args.word.now =
    c.meaning_shape.ensures ∙ ap (option_and_then (λ n. meaning_shape n.meaning)) (sym (ap option_copied c.in-Some.is) ∙ c.used_as.ensures) in
    λ h. subst (λ (o : Option (List Span)). IfSome o AreGood) (sym is) (shape_good c.args.names.now c.args.role c.args.word.now h)
