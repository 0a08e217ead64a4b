-- What is asked of all that mappings are made of.
use Rattle.std.specs.Prelude.{◌≡◌, map}
use Rattle.hpf_syntax.specs.Plain.{item_tree}
use Rattle.hpf_map.specs.declared.mappings.Mapper.{Mapper}
use Rattle.hpf_map.specs.Layers.{names_of}
use Rattle.hpf_map.specs.Mappings.{CanMapAll}
use Rattle.hpf_map.specs.Shaded.{AreShadows}
use Rattle.hpf_map.specs.Widths.{all_widths}

-- the names, widths, landings and shadows are those of the statements
pub record IsMapper (m : Mapper) : Type 0 where
  pub names : m.names.now ≡ names_of (map item_tree m.items.now)
  pub widths : m.widths.now ≡ all_widths (map item_tree m.items.now)
  pub can : CanMapAll (map item_tree m.items.now) m.landings.now
  pub shadows : AreShadows (map item_tree m.items.now) m.shadows.now.widths.items m.shadows.now.first
