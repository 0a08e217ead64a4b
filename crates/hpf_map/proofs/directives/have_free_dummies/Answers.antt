use Rattle.std.proofs.Common.{ap, ◌∙◌, Some, map}
use Rattle.std.specs.Prelude.{option_map, option_to_list, is_none}
use Rattle.hpf_syntax.specs.Plain.{sub_tree}
use Rattle.hpf_map.specs.Found.{least_with}
use Rattle.hpf_map.specs.Hidden.{hides}
use Rattle.hpf_map.specs.Subscripts.{dummy_breaches}
use Rattle.hpf_map.proofs.FoundLemmas.{least_with-first, none_first}
use Rattle.hpf_map.proofs.directives.have_free_dummies.Goals as goal

pub returns-clause-free : goal.returns-clause-free
returns-clause-free c =
    let found = c.in_ok-test_dummies.ensures ∙ ap (λ h. least_with h (dummy_breaches (hides (Some c.args.dummies.now)) c.args.sources.now (option_map (map sub_tree) c.args.subs.now))) c.new-found.ensures in
    c.is_empty.ensures ∙ ap is_none found ∙ none_first (dummy_breaches (hides (Some c.args.dummies.now)) c.args.sources.now (option_map (map sub_tree) c.args.subs.now))

pub returns-clause-breaches : goal.returns-clause-breaches
returns-clause-breaches c =
    let found = c.in_ok-test_dummies.ensures ∙ ap (λ h. least_with h (dummy_breaches (hides (Some c.args.dummies.now)) c.args.sources.now (option_map (map sub_tree) c.args.subs.now))) c.new-found.ensures in
    c.take_in.ensures ∙ ap (λ o. least_with c.args.breaches.now (option_to_list o)) found
    ∙ least_with-first c.args.breaches.now (dummy_breaches (hides (Some c.args.dummies.now)) c.args.sources.now (option_map (map sub_tree) c.args.subs.now))
