use Rattle.std.proofs.Common.{[], ◌∷◌, ◌++◌, map, take, sym, ap, ◌∙◌}
use Rattle.std.proofs.lemmas.List.{map-append}
use Rattle.hpf_syntax.specs.Plain.{format_tree}
use Rattle.hpf_map.specs.Expressions.{format_breaches}
use Rattle.hpf_map.specs.Widths.{format_width}
use Rattle.hpf_map.proofs.DeclareLemmas.{seen_more}
use Rattle.hpf_map.proofs.FoundLemmas.{each_seen_more}
use Rattle.hpf_map.proofs.format_widths.read_widths.Goals as goal

pub loop-format-preserved : goal.loop-format-preserved
loop-format-preserved c =
    let i = c.loop-format.format-index in
    let formats = c.args.formats.now in
    let x = c.format-item.result in
    let width = format_width c.args.scope.now in
    let more = seen_more format_tree formats i x c.loop-format-test.true c.format-item.is in
    record {
      values =
          c.in_ok-push.ensures.items ∙ ap (λ v. c.loop-format.values.items ++ v ∷ []) c.format_width.ensures.value
          ∙ ap (λ l. l ++ width (format_tree x) ∷ []) c.loop-format.invariant.values
          ∙ sym (ap (map width) more ∙ map-append width (map format_tree (take i formats)) (format_tree x ∷ []));
      breaches =
          each_seen_more format_tree (format_breaches c.args.scope.now) formats i x _ _ _
          c.loop-format-test.true c.format-item.is c.loop-format.invariant.breaches c.format_width.ensures.breaches;
    }
