use Rattle.std.proofs.Common.{◌≡◌, [], ◌∷◌, take, map}
use Rattle.std.specs.Prelude.{option_to_list}
use Rattle.hpf_syntax.specs.Plain.{item_tree}
use Rattle.hpf_map.specs.Declarations.{threaded, names_after}
use Rattle.hpf_map.specs.Layers.{ordered_breaches}
use Rattle.hpf_map.specs.Lines.{statement_line}
use Rattle.hpf_map.specs.ShadowWidths.{statement_shadow}
use Rattle.hpf_map.specs.Subscripts.{statement_subscripts}
use Rattle.hpf_map.specs.Widths.{statement_widths}
use Rattle.hpf_map.proofs.DeclareLemmas.{Threads}
use Rattle.hpf_map.proofs.statements.read_items.Given as goal

abbrev pub invariant-loop-item : goal.invariant-loop-item
invariant-loop-item l = record {
  threads : Threads item_tree names_after ordered_breaches l.items l.item-index l.initial.names l.names l.initial.breaches l.breaches;
  said :
      l.said.items ≡ threaded names_after (λ before item. statement_subscripts before item ∷ []) l.initial.names (map item_tree (take l.item-index l.items));
  widths :
      l.widths.items ≡ threaded names_after (λ before item. statement_widths before item ∷ []) l.initial.names (map item_tree (take l.item-index l.items));
  shadows :
      l.shadows.items ≡ threaded names_after (λ before item. statement_shadow before item ∷ []) l.initial.names (map item_tree (take l.item-index l.items));
  lines :
      l.lines.items ≡ threaded names_after (λ before item. option_to_list (statement_line before item)) l.initial.names (map item_tree (take l.item-index l.items));
}
