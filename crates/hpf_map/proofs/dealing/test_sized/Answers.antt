use Rattle.std.proofs.Common.{length, sym, ap, ◌∙◌}
use Rattle.std.specs.Prelude.{option_copied}
use Rattle.std.proofs.lemmas.List.{length-map}
use Rattle.hpf_syntax.specs.Plain.{format_tree}
use Rattle.hpf_map.specs.Found.{least_with}
use Rattle.hpf_map.specs.Seen.{seen}
use Rattle.hpf_map.proofs.FoundLemmas.{least_with-nil}
use Rattle.hpf_map.proofs.OverLemmas.{not_sized}
use Rattle.hpf_map.proofs.dealing.test_sized.Goals as goal

pub returns-else-as_slice-dealing : goal.returns-else-as_slice-dealing
returns-else-as_slice-dealing c =
    let none = not_sized (seen c.args.dealing.now) (option_copied c.args.shape) c.in-Some.shape.now (ap option_copied c.in-Some.is)
    (λ e. c.if-as_slice-dealing.false (ap length c.as_slice.ensures ∙ e ∙ length-map c.args.dealing.now.formats.now format_tree)) in
    sym (least_with-nil c.args.breaches.now) ∙ ap (least_with c.args.breaches.now) (sym none)
