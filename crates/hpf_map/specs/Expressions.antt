-- The expressions of directives and of pipeline lines, wherever they stand, where these names are declared before.
use Rattle.std.specs.Prelude.{ℕ, Bool, List, [], ◌++◌, Option, Some, None}
use Rattle.std.specs.List.{flat_map}
use Rattle.hpf_lex.specs.declared.refusal.MapRefusal.{MapRefusal}
use Rattle.hpf_syntax.specs.declared.tree.SourceItem.{SourceItem}
use Rattle.hpf_syntax.specs.Plain.{Tree, FormatTree, Block, Cyclic, SubTree, OpTree, Plain, Add, Mul, Prefix, Stencil, ItemTree, Distribute, Align, Shadow, Input, Stage}
use Rattle.hpf_map.specs.declared.name.Name.{Name}
use Rattle.hpf_map.specs.ShadowWidths.{width_breaches}
use Rattle.hpf_map.specs.Subscripts.{dummy_breaches, forms_breaches}
use Rattle.hpf_map.specs.Uses.{subscript_breaches, dummies}
use Rattle.hpf_map.specs.Values.{expression_breaches, maybe_expression_breaches}

module _ (before : List Name) where
  -- the width of a format
  unfoldable pub format_breaches : FormatTree → List MapRefusal
  format_breaches (Block at width) = maybe_expression_breaches before width
  format_breaches (Cyclic at width) = maybe_expression_breaches before width
  format_breaches format = []

  -- the entries of PERMUTE
  abbrev pub list_breaches : Option (List Tree) → List MapRefusal
  list_breaches None = []
  list_breaches (Some es) = flat_map (expression_breaches before) es

  -- the arguments of an operation
  unfoldable pub operation_breaches : OpTree → List MapRefusal
  operation_breaches Plain = []
  operation_breaches (Add at e) = expression_breaches before e
  operation_breaches (Mul at e) = expression_breaches before e
  operation_breaches (Prefix at e) = expression_breaches before e
  operation_breaches (Stencil at e weights) = expression_breaches before e ++ flat_map (expression_breaches before) weights

  -- the names in the subscripts of ALIGN
  abbrev pub subscript_name_breaches : (List ℕ → Bool) → Option (List SubTree) → List MapRefusal
  subscript_name_breaches hides None = []
  subscript_name_breaches hides (Some subs) = flat_map (subscript_breaches before hides) subs

  -- names, operators and dummies in the subscripts of an ALIGN whose dummies hide these words
  unfoldable pub align_expression_breaches : (List ℕ → Bool) → Option (List SourceItem) → Option (List SubTree) → List MapRefusal
  align_expression_breaches hides sources subs =
      subscript_name_breaches hides subs ++ forms_breaches before hides subs ++ dummy_breaches hides sources subs

  -- all expressions of a statement that declares nothing
  unfoldable pub directive_breaches : ItemTree → List MapRefusal
  directive_breaches (Distribute names formats onto) = flat_map format_breaches formats
  directive_breaches (Align names sources base subs) = align_expression_breaches (dummies sources) sources subs
  directive_breaches (Shadow names widths) = flat_map (width_breaches before) widths
  directive_breaches (Input at name buffers op) = maybe_expression_breaches before buffers ++ operation_breaches op
  directive_breaches (Stage at name permute buffers op) =
      list_breaches permute ++ maybe_expression_breaches before buffers ++ operation_breaches op
  directive_breaches item = []
