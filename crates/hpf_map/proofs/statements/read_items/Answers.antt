use Rattle.std.proofs.Common.{[], ◌∷◌, ◌++◌, ap, ◌∙◌}
use Rattle.std.specs.Prelude.{option_to_list}
use Rattle.hpf_syntax.specs.Plain.{item_tree}
use Rattle.hpf_map.specs.Declarations.{names_after}
use Rattle.hpf_map.specs.Lines.{statement_line}
use Rattle.hpf_map.specs.ShadowWidths.{statement_shadow}
use Rattle.hpf_map.specs.Subscripts.{statement_subscripts}
use Rattle.hpf_map.specs.Widths.{statement_widths}
use Rattle.hpf_map.proofs.DeclareLemmas.{Threads-more, threaded_more}
use Rattle.hpf_map.proofs.statements.read_items.Goals as goal

pub loop-item-preserved : goal.loop-item-preserved
loop-item-preserved c = record {
  threads =
      Threads-more c.item-item.result c.read_item.new.names c.read_item.new.breaches c.loop-item.invariant.threads
      c.loop-item-test.true c.item-item.is c.in_ok-read.ensures.names c.in_ok-read.ensures.breaches;
  said =
      threaded_more item_tree names_after (λ before item. statement_subscripts before item ∷ []) c.args.items.now c.loop-item.item-index c.item-item.result
      c.new-names.result c.loop-item.names c.loop-item.said.items c.push.new.self.items c.loop-item-test.true c.item-item.is
      c.loop-item.invariant.threads.state c.loop-item.invariant.said
      (c.in_ok-push.ensures.items ∙ ap (λ s. c.loop-item.said.items ++ s ∷ []) c.in_ok-read.ensures.subscripts);
  widths =
      threaded_more item_tree names_after (λ before item. statement_widths before item ∷ []) c.args.items.now c.loop-item.item-index c.item-item.result
      c.new-names.result c.loop-item.names c.loop-item.widths.items c.push-in-loop-item.new.self.items c.loop-item-test.true c.item-item.is
      c.loop-item.invariant.threads.state c.loop-item.invariant.widths
      (c.in_ok-push-2.ensures.items ∙ ap (λ w. c.loop-item.widths.items ++ w ∷ []) c.in_ok-read.ensures.widths);
  shadows =
      threaded_more item_tree names_after (λ before item. statement_shadow before item ∷ []) c.args.items.now c.loop-item.item-index c.item-item.result
      c.new-names.result c.loop-item.names c.loop-item.shadows.items c.push-in-loop-item-2.new.self.items c.loop-item-test.true c.item-item.is
      c.loop-item.invariant.threads.state c.loop-item.invariant.shadows
      (c.in_ok-push-3.ensures.items ∙ ap (λ s. c.loop-item.shadows.items ++ s ∷ []) c.in_ok-read.ensures.shadow);
  lines =
      threaded_more item_tree names_after (λ before item. option_to_list (statement_line before item)) c.args.items.now c.loop-item.item-index c.item-item.result
      c.new-names.result c.loop-item.names c.loop-item.lines.items c.add_found.new.list.items c.loop-item-test.true c.item-item.is
      c.loop-item.invariant.threads.state c.loop-item.invariant.lines
      (c.in_ok-add_found.ensures ∙ ap (λ l. c.loop-item.lines.items ++ option_to_list l) c.in_ok-read.ensures.line);
}
