use Rattle.std.proofs.Common.{map, sym, ap, ◌∙◌, arith}
use Rattle.std.proofs.lemmas.List.{length-map}
use Rattle.std.proofs.lemmas.Option.{slice_get_past}
use Rattle.hpf_syntax.specs.Plain.{format_tree}
use Rattle.hpf_map.specs.Dealing.{breaches_of}
use Rattle.hpf_map.specs.Found.{least_with}
use Rattle.hpf_map.specs.Seen.{seen}
use Rattle.hpf_map.proofs.FoundLemmas.{least_with-nil}
use Rattle.hpf_map.proofs.dealing.test_format_at.Goals as goal

pub returns-in-None : goal.returns-in-None
returns-in-None c =
    let formats = c.args.dealing.now.formats.now in
    let long = length-map formats format_tree in
    let past = c.in-None.ensures.lookup.3 in
    let none = slice_get_past (map format_tree formats) c.args.k (omega (arith, long, past)) in
    sym (least_with-nil c.args.breaches.now) ∙ ap (least_with c.args.breaches.now) (sym (ap (λ o. breaches_of (seen c.args.dealing.now) c.args.spans.now o c.args.k) none))
