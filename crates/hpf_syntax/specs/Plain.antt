-- Trees without where their boxes lie in memory: what two equal trees have in common. Each type here has the
-- parts of the type that it is a view of, under the same names (this project defines the tree).
use Rattle.std.specs.Prelude.{ℕ, List, map, Option, Some, None, option_map}
use Rattle.hpf_lex.specs.declared.token.Token.{Token}
use Rattle.hpf_syntax.specs.declared.tree.At.{At}
use Rattle.hpf_syntax.specs.declared.tree.Spot.{Spot}
use Rattle.hpf_syntax.specs.declared.tree.Expr.{Expr}
use Rattle.hpf_syntax.specs.declared.tree.Expr.TheVariants as expr
use Rattle.hpf_syntax.specs.declared.tree.Bound.{Bound}
use Rattle.hpf_syntax.specs.declared.tree.Declared.{Declared}
use Rattle.hpf_syntax.specs.declared.tree.Value.{Value}
use Rattle.hpf_syntax.specs.declared.tree.Value.TheVariants as value
use Rattle.hpf_syntax.specs.declared.tree.Constant.{Constant}
use Rattle.hpf_syntax.specs.declared.tree.FormatItem.{FormatItem}
use Rattle.hpf_syntax.specs.declared.tree.FormatItem.TheVariants as format
use Rattle.hpf_syntax.specs.declared.tree.SourceItem.{SourceItem}
use Rattle.hpf_syntax.specs.declared.tree.SubItem.{SubItem}
use Rattle.hpf_syntax.specs.declared.tree.SubItem.TheVariants as sub
use Rattle.hpf_syntax.specs.declared.tree.WidthItem.{WidthItem}
use Rattle.hpf_syntax.specs.declared.tree.OpItem.{OpItem}
use Rattle.hpf_syntax.specs.declared.tree.OpItem.TheVariants as op
use Rattle.hpf_syntax.specs.declared.tree.Item.{Item}
use Rattle.hpf_syntax.specs.declared.tree.Item.TheVariants as item

-- the place of a token
abbrev pub place : Token → At
place token = record { line = token.line; column = token.column }

pub data Tree : Type 0 where
  Number : At → ℕ → Tree
  Name : At → List ℕ → Tree
  Neg : At → Tree → Tree
  Plus : At → Tree → Tree → Tree
  Minus : At → Tree → Tree → Tree
  Times : At → Tree → Tree → Tree

abbrev pub tree : Expr → Tree
tree (expr.Number at n) = Number at n
tree (expr.Name at word) = Name at word
tree (expr.Neg' at p e) = Neg at (tree e)
tree (expr.Plus' at p a q b) = Plus at (tree a) (tree b)
tree (expr.Minus' at p a q b) = Minus at (tree a) (tree b)
tree (expr.Times' at p a q b) = Times at (tree a) (tree b)

pub record BoundTree : Type 0 where
  pub low : Option Tree
  pub high : Tree

-- a bound with one expression has no lower one
abbrev pub bound_of : Tree → Option Tree → BoundTree
bound_of first None = record { low = None; high = first }
bound_of first (Some second) = record { low = Some first; high = second }

abbrev pub bound_tree : Bound → BoundTree
bound_tree b = record { low = option_map tree b.low; high = tree b.high }

pub record DeclaredTree : Type 0 where
  pub name : Spot
  pub shape : List BoundTree

abbrev pub declared_tree : Declared → DeclaredTree
declared_tree d = record { name = d.name; shape = map bound_tree d.shape }

pub data ValueTree : Type 0 where
  One : Tree → ValueTree
  Many : List Tree → ValueTree

abbrev pub value_tree : Value → ValueTree
value_tree (value.One e) = One (tree e)
value_tree (value.Many es) = Many (map tree es)

pub record ConstantTree : Type 0 where
  pub name : Spot
  pub shape : List BoundTree
  pub value : ValueTree

abbrev pub constant_tree : Constant → ConstantTree
constant_tree c = record { name = c.name; shape = map bound_tree c.shape; value = value_tree c.value }

pub data FormatTree : Type 0 where
  Star : At → FormatTree
  Block : At → Option Tree → FormatTree
  Cyclic : At → Option Tree → FormatTree
  GenBlock : At → Spot → FormatTree
  Indirect : At → Spot → FormatTree

abbrev pub format_tree : FormatItem → FormatTree
format_tree (format.Star at) = Star at
format_tree (format.Block at e) = Block at (option_map tree e)
format_tree (format.Cyclic at e) = Cyclic at (option_map tree e)
format_tree (format.GenBlock at name) = GenBlock at name
format_tree (format.Indirect at name) = Indirect at name

pub data SubTree : Type 0 where
  AnyPlace : At → SubTree
  OnePlace : Tree → SubTree
  Triplet : (at : At) (low high step : Option Tree) → SubTree

abbrev pub sub_tree : SubItem → SubTree
sub_tree (sub.Star at) = AnyPlace at
sub_tree (sub.Value e) = OnePlace (tree e)
sub_tree (sub.Triplet at low high step) = Triplet at (option_map tree low) (option_map tree high) (option_map tree step)

pub record WidthTree : Type 0 where
  pub low : Tree
  pub high : Option Tree

abbrev pub width_tree : WidthItem → WidthTree
width_tree w = record { low = tree w.low; high = option_map tree w.high }

pub data OpTree : Type 0 where
  Plain : OpTree
  Add : At → Tree → OpTree
  Mul : At → Tree → OpTree
  Prefix : At → Tree → OpTree
  Stencil : At → Tree → List Tree → OpTree

abbrev pub op_tree : OpItem → OpTree
op_tree op.Plain = Plain
op_tree (op.Add at e) = Add at (tree e)
op_tree (op.Mul at e) = Mul at (tree e)
op_tree (op.Prefix at e) = Prefix at (tree e)
op_tree (op.Stencil at e weights) = Stencil at (tree e) (map tree weights)

pub data ItemTree : Type 0 where
  ImplicitNone : At → ItemTree
  Variables : (common : List BoundTree) (names : List DeclaredTree) → ItemTree
  Constants : (common : List BoundTree) (names : List ConstantTree) → ItemTree
  Processors : List DeclaredTree → ItemTree
  Template : List DeclaredTree → ItemTree
  Distribute : (names : List Spot) (formats : List FormatTree) (onto : Option Spot) → ItemTree
  Align : (names : List Spot) (sources : Option (List SourceItem)) (base : Spot) (subs : Option (List SubTree)) → ItemTree
  Shadow : (names : List Spot) (widths : List WidthTree) → ItemTree
  Input : (at : At) (name : Spot) (buffers : Option Tree) (op : OpTree) → ItemTree
  Stage : (at : At) (name : Spot) (permute : Option (List Tree)) (buffers : Option Tree) (op : OpTree) → ItemTree

abbrev pub item_tree : Item → ItemTree
item_tree (item.ImplicitNone at) = ImplicitNone at
item_tree (item.Variables common names) = Variables (map bound_tree common) (map declared_tree names)
item_tree (item.Constants common names) = Constants (map bound_tree common) (map constant_tree names)
item_tree (item.Processors names) = Processors (map declared_tree names)
item_tree (item.Template names) = Template (map declared_tree names)
item_tree (item.Distribute names formats onto) = Distribute names (map format_tree formats) onto
item_tree (item.Align names sources base subs) = Align names sources base (option_map (map sub_tree) subs)
item_tree (item.Shadow names widths) = Shadow names (map width_tree widths)
item_tree (item.Input at name buffers op) = Input at name (option_map tree buffers) (op_tree op)
item_tree (item.Stage at name permute buffers op) =
    Stage at name (option_map (map tree) permute) (option_map tree buffers) (op_tree op)
