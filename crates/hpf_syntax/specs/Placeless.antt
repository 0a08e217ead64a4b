-- Trees without the places of their tokens: what two texts with one canonical text have in common.
use Rattle.std.specs.Prelude.{◌≡◌, List, map, option_map}
use Rattle.hpf_syntax.specs.declared.tree.At.{At}
use Rattle.hpf_syntax.specs.declared.tree.Spot.{Spot}
use Rattle.hpf_syntax.specs.declared.tree.SourceItem.{SourceItem}
use Rattle.hpf_syntax.specs.declared.tree.SourceItem.TheVariants as source
use Rattle.hpf_syntax.specs.Plain.{Tree, Number, Name, Neg, Plus, Minus, Times, BoundTree, DeclaredTree, ValueTree, One, Many, ConstantTree, FormatTree, Star, Block, Cyclic, GenBlock, Indirect, SubTree, AnyPlace, OnePlace, Triplet, WidthTree, OpTree, Plain, Add, Mul, Prefix, Stencil, ItemTree, ImplicitNone, Variables, Constants, Processors, Template, Distribute, Align, Shadow, Input, Stage}

-- the place that stands for every other
abbrev pub nowhere : At
nowhere = record { line = 0; column = 0 }

abbrev pub bare_name : Spot → Spot
bare_name name = record { word = name.word; at = nowhere }

abbrev pub bare : Tree → Tree
bare (Number at n) = Number nowhere n
bare (Name at word) = Name nowhere word
bare (Neg at e) = Neg nowhere (bare e)
bare (Plus at a b) = Plus nowhere (bare a) (bare b)
bare (Minus at a b) = Minus nowhere (bare a) (bare b)
bare (Times at a b) = Times nowhere (bare a) (bare b)

abbrev pub bare_bound : BoundTree → BoundTree
bare_bound b = record { low = option_map bare b.low; high = bare b.high }

abbrev pub bare_declared : DeclaredTree → DeclaredTree
bare_declared d = record { name = bare_name d.name; shape = map bare_bound d.shape }

abbrev pub bare_value : ValueTree → ValueTree
bare_value (One e) = One (bare e)
bare_value (Many es) = Many (map bare es)

abbrev pub bare_constant : ConstantTree → ConstantTree
bare_constant c = record { name = bare_name c.name; shape = map bare_bound c.shape; value = bare_value c.value }

abbrev pub bare_format : FormatTree → FormatTree
bare_format (Star at) = Star nowhere
bare_format (Block at e) = Block nowhere (option_map bare e)
bare_format (Cyclic at e) = Cyclic nowhere (option_map bare e)
bare_format (GenBlock at name) = GenBlock nowhere (bare_name name)
bare_format (Indirect at name) = Indirect nowhere (bare_name name)

abbrev pub bare_source : SourceItem → SourceItem
bare_source (source.Colon at) = source.Colon nowhere
bare_source (source.Star at) = source.Star nowhere
bare_source (source.Dummy name) = source.Dummy (bare_name name)

abbrev pub bare_sub : SubTree → SubTree
bare_sub (AnyPlace at) = AnyPlace nowhere
bare_sub (OnePlace e) = OnePlace (bare e)
bare_sub (Triplet at low high step) = Triplet nowhere (option_map bare low) (option_map bare high) (option_map bare step)

abbrev pub bare_width : WidthTree → WidthTree
bare_width w = record { low = bare w.low; high = option_map bare w.high }

abbrev pub bare_operation : OpTree → OpTree
bare_operation Plain = Plain
bare_operation (Add at e) = Add nowhere (bare e)
bare_operation (Mul at e) = Mul nowhere (bare e)
bare_operation (Prefix at e) = Prefix nowhere (bare e)
bare_operation (Stencil at e weights) = Stencil nowhere (bare e) (map bare weights)

abbrev pub bare_item : ItemTree → ItemTree
bare_item (ImplicitNone at) = ImplicitNone nowhere
bare_item (Variables common names) = Variables (map bare_bound common) (map bare_declared names)
bare_item (Constants common names) = Constants (map bare_bound common) (map bare_constant names)
bare_item (Processors names) = Processors (map bare_declared names)
bare_item (Template names) = Template (map bare_declared names)
bare_item (Distribute names formats onto) = Distribute (map bare_name names) (map bare_format formats) (option_map bare_name onto)
bare_item (Align names sources base subs) =
    Align (map bare_name names) (option_map (map bare_source) sources) (bare_name base) (option_map (map bare_sub) subs)
bare_item (Shadow names widths) = Shadow (map bare_name names) (map bare_width widths)
bare_item (Input at name buffers op) = Input nowhere (bare_name name) (option_map bare buffers) (bare_operation op)
bare_item (Stage at name permute buffers op) =
    Stage nowhere (bare_name name) (option_map (map bare) permute) (option_map bare buffers) (bare_operation op)

-- the same statements, but for their places
abbrev pub AreAlike : List ItemTree → List ItemTree → Type 0
AreAlike xs ys = map bare_item xs ≡ map bare_item ys
