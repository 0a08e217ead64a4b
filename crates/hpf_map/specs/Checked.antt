-- What is found of a text as it is checked.
use Rattle.std.specs.BTreeMap.{get}
use Rattle.std.specs.Ordering.{nat_cmp}
use Rattle.std.specs.Prelude.{ℕ, ◌≡◌, List}
use Rattle.hpf_syntax.specs.Plain.{ItemTree}
use Rattle.hpf_map.specs.declared.checked.Checked.{Checked}
use Rattle.hpf_map.specs.Layers.{names_of}
use Rattle.hpf_map.specs.Lines.{all_lines}
use Rattle.hpf_map.specs.ShadowWidths.{all_shadow_widths}
use Rattle.hpf_map.specs.Shadows.{first_shadow}
use Rattle.hpf_map.specs.Subscripts.{all_subscripts}
use Rattle.hpf_map.specs.Ways.{ways_of}
use Rattle.hpf_map.specs.Widths.{all_widths}

-- its names, what its subscripts and widths say, how its names are mapped, and the first SHADOW of each array
pub record IsChecked (items : List ItemTree) (c : Checked) : Type 0 where
  pub names : c.statements.names ≡ names_of items
  pub said : c.statements.said.items ≡ all_subscripts items
  pub widths : c.statements.widths.items ≡ all_widths items
  pub shadow_widths : c.statements.shadows.items ≡ all_shadow_widths items
  pub lines : c.statements.lines.items ≡ all_lines items
  pub ways : c.ways ≡ ways_of (names_of items) items
  pub first_shadows : (n : ℕ) → get nat_cmp c.first_shadows n ≡ first_shadow (names_of items) items n
