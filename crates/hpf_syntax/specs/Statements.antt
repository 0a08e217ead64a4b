-- Reading statements, from left to right and one token ahead.
use Rattle.std.specs.Prelude.{ℕ, zero, suc, List, [], ◌∷◌, ◌++◌, length, Option, Some, None, Result, Ok, Err, Bool, ◌||◌, if◌then◌else◌}
use Rattle.hpf_lex.specs.declared.token.Token.{Token}
use Rattle.hpf_syntax.specs.declared.tree.At.{At}
use Rattle.hpf_syntax.specs.declared.tree.Spot.{Spot}
use Rattle.hpf_syntax.specs.declared.tree.SourceItem.{SourceItem}
use Rattle.hpf_syntax.specs.declared.tree.SourceItem.TheVariants as source
use Rattle.hpf_syntax.specs.declared.terminal.Terminal.TheVariants as terminal
use Rattle.hpf_syntax.specs.declared.stop.Fault.TheVariants.{Syntax}
use Rattle.hpf_syntax.specs.declared.stop.BadToken.{BadToken}
use Rattle.hpf_syntax.specs.Terminal.{begins}
use Rattle.hpf_syntax.specs.Reading.{◌>>=◌, Reading, bad_at, rest_of, first_place, take_at, separated_at, enclosed_at}
use Rattle.hpf_syntax.specs.Partial.{expression_at}
use Rattle.hpf_syntax.specs.Plain.{Tree, BoundTree, bound_of, DeclaredTree, ValueTree, One, Many, ConstantTree, FormatTree, Star, Block, Cyclic, GenBlock, Indirect, SubTree, AnyPlace, OnePlace, Triplet, WidthTree, OpTree, Plain, Add, Mul, Prefix, Stencil, ItemTree, ImplicitNone, Variables, Constants, Processors, Template, Distribute, Align, Shadow, Input, Stage}

-- the word of the first token, which is empty for a token that is no word
abbrev pub first_word : List Token → List ℕ
first_word [] = []
first_word (t ∷ ts) = t.word

unfoldable pub name_at : Reading Spot
name_at tokens =
    if begins terminal.Name tokens
    then Ok (record { word = first_word tokens; at = first_place tokens }, rest_of tokens)
    else Err (bad_at Syntax tokens)

-- ---- declarations

-- two colons, if they are there
unfoldable pub skip_colons_at : Reading (Unit {0})
skip_colons_at tokens = if begins terminal.DoubleColon tokens then Ok (tt, rest_of tokens) else Ok (tt, tokens)

-- ---- directives

unfoldable pub names_at : Reading (List Spot)
names_at tokens = separated_at name_at tokens

-- two colons, and names
unfoldable pub colons_names_at : Reading (List Spot)
colons_names_at tokens = take_at terminal.DoubleColon tokens >>= λ colons. names_at colons.1

-- a name in parentheses
unfoldable pub name_argument_at : Reading Spot
name_argument_at tokens = do
  from ← take_at terminal.LeftParen tokens
  name ← name_at from.1
  to ← take_at terminal.RightParen name.1
  Ok (name.0, to.1)

unfoldable pub onto_at : Reading (Option Spot)
onto_at tokens =
    if begins terminal.Onto tokens
    then (name_at (rest_of tokens) >>= λ n. Ok (Some n.0, n.1))
    else Ok (None, tokens)

unfoldable pub source_at : Reading SourceItem
source_at tokens =
    if begins terminal.Colon tokens then Ok (source.Colon (first_place tokens), rest_of tokens)
    else (if begins terminal.Star tokens then Ok (source.Star (first_place tokens), rest_of tokens)
    else (name_at tokens >>= λ n. Ok (source.Dummy n.0, n.1)))

-- what begins with these tokens, if it stands there
abbrev pub maybe_at : {A : Type 0} → (List Token → Bool) → Reading A → Reading (Option A)
maybe_at there read tokens = if there tokens then (read tokens >>= λ x. Ok (Some x.0, x.1)) else Ok (None, tokens)

-- a list in parentheses, if it stands there
unfoldable pub maybe_list_at : {A : Type 0} → Reading A → Reading (Option (List A))
maybe_list_at read tokens = maybe_at (begins terminal.LeftParen) (enclosed_at terminal.LeftParen terminal.RightParen read) tokens

-- whether an expression begins here
abbrev pub begins_expression : List Token → Bool
begins_expression tokens =
    begins terminal.Number tokens || begins terminal.Name tokens || begins terminal.LeftParen tokens
    || begins terminal.Plus tokens || begins terminal.Minus tokens

abbrev pub begins_triplet : List Token → Bool
begins_triplet tokens = begins terminal.Colon tokens || begins terminal.DoubleColon tokens

-- a name and what is read of it, or what is read and names behind two colons
unfoldable pub of_names_at : {A : Type 0} → Reading A → Reading (List Spot × A)
of_names_at read tokens =
    if begins terminal.Name tokens
    then (name_at tokens >>= λ name. read name.1 >>= λ x. Ok ((name.0 ∷ [], x.0), x.1))
    else (read tokens >>= λ x. colons_names_at x.1 >>= λ names. Ok ((names.0, x.0), names.1))

-- ---- what holds expressions, none of which has more than max tokens

module _ (max : ℕ) where
  -- an expression in parentheses
  unfoldable pub argument_at : Reading Tree
  argument_at tokens = do
    from ← take_at terminal.LeftParen tokens
    e ← expression_at max from.1
    to ← take_at terminal.RightParen e.1
    Ok (e.0, to.1)

  -- an expression behind a colon, if there is a colon
  unfoldable pub colon_at : Reading (Option Tree)
  colon_at tokens =
      if begins terminal.Colon tokens
      then (expression_at max (rest_of tokens) >>= λ e. Ok (Some e.0, e.1))
      else Ok (None, tokens)

  unfoldable pub bound_at : Reading BoundTree
  bound_at tokens = do
    first ← expression_at max tokens
    second ← colon_at first.1
    Ok (bound_of first.0 second.0, second.1)

  unfoldable pub shape_at : Reading (List BoundTree)
  shape_at tokens = enclosed_at terminal.LeftParen terminal.RightParen bound_at tokens

  -- a shape, or none
  unfoldable pub own_shape_at : Reading (List BoundTree)
  own_shape_at tokens = if begins terminal.LeftParen tokens then shape_at tokens else Ok ([], tokens)

  unfoldable pub variable_at : Reading DeclaredTree
  variable_at tokens = do
    name ← name_at tokens
    shape ← own_shape_at name.1
    Ok (record { name = name.0; shape = shape.0 }, shape.1)

  unfoldable pub shaped_at : Reading DeclaredTree
  shaped_at tokens = do
    name ← name_at tokens
    shape ← shape_at name.1
    Ok (record { name = name.0; shape = shape.0 }, shape.1)

  unfoldable pub array_at : Reading (List Tree)
  array_at tokens = enclosed_at terminal.LeftArray terminal.RightArray (expression_at max) tokens

  unfoldable pub value_at : Reading ValueTree
  value_at tokens =
      if begins terminal.LeftArray tokens
      then (array_at tokens >>= λ list. Ok (Many list.0, list.1))
      else (expression_at max tokens >>= λ e. Ok (One e.0, e.1))

  unfoldable pub constant_at : Reading ConstantTree
  constant_at tokens = do
    name ← name_at tokens
    shape ← own_shape_at name.1
    equals ← take_at terminal.Equals shape.1
    value ← value_at equals.1
    Ok (record { name = name.0; shape = shape.0; value = value.0 }, value.1)

  unfoldable pub dimension_at : Reading (List BoundTree)
  dimension_at tokens = take_at terminal.Dimension tokens >>= λ at. shape_at at.1

  -- variables, with the shape that they have in common
  unfoldable pub variables_at : List BoundTree → Reading ItemTree
  variables_at common tokens = separated_at variable_at tokens >>= λ names. Ok (Variables common names.0, names.1)

  -- two colons, and constants, with the shape that they have in common
  unfoldable pub constants_at : List BoundTree → Reading ItemTree
  constants_at common tokens = do
    colons ← take_at terminal.DoubleColon tokens
    names ← separated_at constant_at colons.1
    Ok (Constants common names.0, names.1)

  -- behind DIMENSION and its shape
  unfoldable pub behind_dimension_at : List BoundTree → Reading ItemTree
  behind_dimension_at common tokens =
      if begins terminal.Comma tokens
      then (take_at terminal.Parameter (rest_of tokens) >>= λ at. constants_at common at.1)
      else (take_at terminal.DoubleColon tokens >>= λ colons. variables_at common colons.1)

  -- behind PARAMETER, a dimension if there is a comma
  unfoldable pub more_dimension_at : Reading (List BoundTree)
  more_dimension_at tokens = if begins terminal.Comma tokens then dimension_at (rest_of tokens) else Ok ([], tokens)

  -- behind INTEGER and a comma
  unfoldable pub attributes_at : Reading ItemTree
  attributes_at tokens =
      if begins terminal.Dimension tokens
      then (dimension_at tokens >>= λ common. behind_dimension_at common.0 common.1)
      else (take_at terminal.Parameter tokens >>= λ at. more_dimension_at at.1 >>= λ common. constants_at common.0 common.1)

  -- behind INTEGER
  unfoldable pub integer_at : Reading ItemTree
  integer_at tokens =
      if begins terminal.Comma tokens
      then attributes_at (rest_of tokens)
      else (skip_colons_at tokens >>= λ colons. variables_at [] colons.1)

  unfoldable pub fortran_at : Reading ItemTree
  fortran_at tokens =
      if begins terminal.Implicit tokens
      then (take_at terminal.NoneWord (rest_of tokens) >>= λ none. Ok (ImplicitNone (first_place tokens), none.1))
      else (take_at terminal.Integer tokens >>= λ at. integer_at at.1)

  -- a width of a format, if there is one
  unfoldable pub format_width_at : Reading (Option Tree)
  format_width_at tokens = maybe_at (begins terminal.LeftParen) argument_at tokens

  unfoldable pub format_at : Reading FormatTree
  format_at tokens =
      if begins terminal.Star tokens then Ok (Star (first_place tokens), rest_of tokens)
      else (if begins terminal.Block tokens
      then (format_width_at (rest_of tokens) >>= λ w. Ok (Block (first_place tokens) w.0, w.1))
      else (if begins terminal.Cyclic tokens
      then (format_width_at (rest_of tokens) >>= λ w. Ok (Cyclic (first_place tokens) w.0, w.1))
      else (if begins terminal.GenBlock tokens
      then (name_argument_at (rest_of tokens) >>= λ n. Ok (GenBlock (first_place tokens) n.0, n.1))
      else (take_at terminal.Indirect tokens >>= λ at. name_argument_at at.1 >>= λ n. Ok (Indirect at.0 n.0, n.1)))))

  unfoldable pub formats_at : Reading (List FormatTree)
  formats_at tokens = enclosed_at terminal.LeftParen terminal.RightParen format_at tokens

  unfoldable pub distribution_at : Reading (List FormatTree × Option Spot)
  distribution_at tokens = do
    formats ← formats_at tokens
    onto ← onto_at formats.1
    Ok ((formats.0, onto.0), onto.1)

  unfoldable pub maybe_expression_at : Reading (Option Tree)
  maybe_expression_at tokens = maybe_at begins_expression (expression_at max) tokens

  -- a triplet, from its first colon on
  unfoldable pub triplet_at : Option Tree → Reading SubTree
  triplet_at low tokens =
      if begins terminal.DoubleColon tokens
      then (expression_at max (rest_of tokens) >>= λ step. Ok (Triplet (first_place tokens) low None (Some step.0), step.1))
      else (take_at terminal.Colon tokens >>= λ at. maybe_expression_at at.1 >>= λ high. colon_at high.1 >>= λ step.
      Ok (Triplet at.0 low high.0 step.0, step.1))

  unfoldable pub sub_at : Reading SubTree
  sub_at tokens =
      if begins terminal.Star tokens then Ok (AnyPlace (first_place tokens), rest_of tokens)
      else (if begins_triplet tokens then triplet_at None tokens
      else (expression_at max tokens >>= λ e. if begins_triplet e.1 then triplet_at (Some e.0) e.1 else Ok (OnePlace e.0, e.1)))

  unfoldable pub alignment_at : Reading (Option (List SourceItem) × Spot × Option (List SubTree))
  alignment_at tokens = do
    sources ← maybe_list_at source_at tokens
    word ← take_at terminal.With sources.1
    base ← name_at word.1
    subs ← maybe_list_at sub_at base.1
    Ok ((sources.0, base.0, subs.0), subs.1)

  unfoldable pub width_at : Reading WidthTree
  width_at tokens = do
    low ← expression_at max tokens
    high ← colon_at low.1
    Ok (record { low = low.0; high = high.0 }, high.1)

  unfoldable pub widths_at : Reading (List WidthTree)
  widths_at tokens = enclosed_at terminal.LeftParen terminal.RightParen width_at tokens

  -- behind DISTRIBUTE, ALIGN and SHADOW
  unfoldable pub distribute_at : Reading ItemTree
  distribute_at tokens = of_names_at distribution_at tokens >>= λ said. Ok (Distribute said.0.0 said.0.1.0 said.0.1.1, said.1)

  unfoldable pub align_at : Reading ItemTree
  align_at tokens = of_names_at alignment_at tokens >>= λ said. Ok (Align said.0.0 said.0.1.0 said.0.1.1 said.0.1.2, said.1)

  unfoldable pub shadow_at : Reading ItemTree
  shadow_at tokens = of_names_at widths_at tokens >>= λ said. Ok (Shadow said.0.0 said.0.1, said.1)

  unfoldable pub directive_at : Reading ItemTree
  directive_at tokens =
      if begins terminal.Processors tokens
      then (separated_at shaped_at (rest_of tokens) >>= λ names. Ok (Processors names.0, names.1))
      else (if begins terminal.Template tokens
      then (separated_at shaped_at (rest_of tokens) >>= λ names. Ok (Template names.0, names.1))
      else (if begins terminal.Distribute tokens then distribute_at (rest_of tokens)
      else (if begins terminal.Align tokens then align_at (rest_of tokens)
      else (take_at terminal.Shadow tokens >>= λ at. shadow_at at.1))))

  unfoldable pub buffers_at : Reading (Option Tree)
  buffers_at tokens =
      if begins terminal.Buffers tokens
      then (argument_at (rest_of tokens) >>= λ e. Ok (Some e.0, e.1))
      else Ok (None, tokens)

  unfoldable pub stencil_at : At → Reading OpTree
  stencil_at at tokens = do
    from ← take_at terminal.LeftParen tokens
    e ← expression_at max from.1
    comma ← take_at terminal.Comma e.1
    weights ← array_at comma.1
    to ← take_at terminal.RightParen weights.1
    Ok (Stencil at e.0 weights.0, to.1)

  unfoldable pub operation_at : Reading OpTree
  operation_at tokens =
      if begins terminal.Add tokens
      then (argument_at (rest_of tokens) >>= λ e. Ok (Add (first_place tokens) e.0, e.1))
      else (if begins terminal.Mul tokens
      then (argument_at (rest_of tokens) >>= λ e. Ok (Mul (first_place tokens) e.0, e.1))
      else (if begins terminal.Prefix tokens
      then (argument_at (rest_of tokens) >>= λ e. Ok (Prefix (first_place tokens) e.0, e.1))
      else (if begins terminal.Stencil tokens
      then stencil_at (first_place tokens) (rest_of tokens)
      else Ok (Plain, tokens))))

  unfoldable pub permute_at : Reading (Option (List Tree))
  permute_at tokens =
      if begins terminal.Permute tokens
      then (enclosed_at terminal.LeftParen terminal.RightParen (expression_at max) (rest_of tokens) >>= λ list. Ok (Some list.0, list.1))
      else Ok (None, tokens)

  unfoldable pub input_at : At → Reading ItemTree
  input_at at tokens = do
    name ← name_at tokens
    buffers ← buffers_at name.1
    op ← operation_at buffers.1
    Ok (Input at name.0 buffers.0 op.0, op.1)

  unfoldable pub stage_at : At → Reading ItemTree
  stage_at at tokens = do
    name ← name_at tokens
    permute ← permute_at name.1
    buffers ← buffers_at permute.1
    op ← operation_at buffers.1
    Ok (Stage at name.0 permute.0 buffers.0 op.0, op.1)

  unfoldable pub pipeline_at : Reading ItemTree
  pipeline_at tokens =
      if begins terminal.Input tokens
      then input_at (first_place tokens) (rest_of tokens)
      else (take_at terminal.Stage tokens >>= λ at. stage_at at.0 at.1)

  unfoldable pub line_at : Reading ItemTree
  line_at tokens =
      if begins terminal.Hpf tokens then directive_at (rest_of tokens)
      else (if begins terminal.Pipe tokens then pipeline_at (rest_of tokens)
      else fortran_at tokens)

  -- a statement and its end
  unfoldable pub statement_at : Reading ItemTree
  statement_at tokens = do
    item ← line_at tokens
    end ← take_at terminal.End item.1
    Ok (item.0, end.1)

  -- the statements up to the end, at most n of them behind those that were read
  unfoldable pub statements_at : ℕ → List ItemTree → List Token → Result (List ItemTree) BadToken
  statements_at n items [] = Ok items
  statements_at zero items (t ∷ ts) = Ok items
  statements_at (suc n) items (t ∷ ts) = statement_at (t ∷ ts) >>= λ next. statements_at n (items ++ next.0 ∷ []) next.1

  -- each statement has a token, so there are no more of them than tokens
  unfoldable pub text_at : List Token → Result (List ItemTree) BadToken
  text_at tokens = statements_at (length tokens) [] tokens
