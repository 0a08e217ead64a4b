-- Each rule of the grammar and its reading.
use Rattle.std.proofs.Common.{◌≡◌, Bool, true, false, List, [], ◌∷◌, ◌++◌, Option, Some, None, Ok, refl, ℕ}
use Rattle.hpf_syntax.specs.declared.tree.At.{At}
use Rattle.hpf_syntax.specs.declared.tree.SourceItem.TheVariants as source
use Rattle.hpf_syntax.specs.declared.terminal.Terminal.TheVariants as terminal
use Rattle.hpf_syntax.specs.Terminal.{same, number_of}
use Rattle.hpf_syntax.specs.Reading.{Reading, take_at, enclosed_at}
use Rattle.hpf_syntax.specs.Partial.{expression_at}
use Rattle.hpf_syntax.specs.Plain.{Tree, BoundTree, bound_of, One, Many, Star, Block, Cyclic, GenBlock, Indirect, AnyPlace, OnePlace, Triplet, Plain, Add, Mul, Prefix, Stencil, ImplicitNone, Variables, Constants, Processors, Template, Distribute, Align, Shadow, Input, Stage}
use Rattle.hpf_syntax.specs.Rules.{Counted, Rule, Done, Then, Sign, AnExpression}
use Rattle.hpf_syntax.specs.Statements.{align_at, alignment_at, argument_at, array_at, attributes_at, behind_dimension_at, bound_at, buffers_at, colon_at, colons_names_at, constant_at, constants_at, dimension_at, directive_at, distribute_at, distribution_at, format_at, format_width_at, formats_at, fortran_at, input_at, integer_at, line_at, maybe_expression_at, maybe_list_at, more_dimension_at, name_argument_at, names_at, of_names_at, onto_at, operation_at, own_shape_at, permute_at, pipeline_at, shadow_at, shape_at, shaped_at, skip_colons_at, source_at, stage_at, statement_at, stencil_at, sub_at, triplet_at, value_at, variable_at, variables_at, width_at, widths_at}
use Rattle.hpf_syntax.specs.Grammar.{ABound, AConstant, ADimension, ADirective, ADistribution, AFormat, ALine, ANameArgument, APipeline, AShape, AShaped, ASource, AStage, AStatement, AStencil, ASub, AValue, AVariable, AWidth, AfterColon, AnAlignment, AnArgument, AnArray, AnInput, Buffers, Enclosed, FormatWidth, Formats, Fortran, MaybeColons, MaybeExpression, Names, NamesBehind, OfNames, Onto, Operation, OwnShape, Permute, SomeVariables, Sources, Subs, Widths}
use Rattle.hpf_syntax.proofs.Edges.{Edges}
use Rattle.hpf_syntax.proofs.Edges as edges
use Rattle.hpf_syntax.proofs.InOrder.{ATriplet, Attributes, BehindDimension, BehindInteger, ColonsConstants, MoreDimension}
use Rattle.hpf_syntax.proofs.Laws.{Core, Reads, done_reads, reads_as, then_core, then_at}
use Rattle.hpf_syntax.proofs.SameRules.{value_in_order, value_published, fortran_in_order, fortran_published, sub_in_order, sub_published, statement_in_order, statement_published}
use Rattle.hpf_syntax.proofs.Terminals.{apart}
use Rattle.hpf_syntax.specs.declared.terminal.Terminal.{Terminal}
use Rattle.hpf_syntax.proofs.ExpressionLaw.{expression_first, expression_reads}
use Rattle.hpf_syntax.proofs.Separated.{separated_reads}
use Rattle.hpf_syntax.proofs.Choices.{apart_nothing, sign, sign_core, name_reads, and_then, or_else, either, begins_tests, triplet_tests, expression_tests}

-- a rule is read so, with these edges
abbrev pub Has : ℕ → {A : Type 0} → Rule A → Reading A → Edges → Type 0
Has max R r e = Reads max R r e.first e.more e.empty

module _ (max : ℕ) where
  -- a rule in other words
  in_words : {A : Type 0} {R Q : Rule A} {r : Reading A} {first more : List Terminal} {empty : Bool} → ((cs : List Counted) (x : A) → R cs x → Q cs x) → ((cs : List Counted) (x : A) → Q cs x → R cs x) → Reads max R r first more empty → Reads max Q r first more empty
  in_words {R = R} {Q = Q} {r = r} {first = first} {more = more} {empty = empty} to from reads = reads_as max R Q r first more empty to from reads

  argument_reads : Has max AnArgument (argument_at max) edges.argument
  unfolding argument_at same number_of
  argument_reads = and_then max (sign max terminal.LeftParen refl refl) (λ from. and_then max (expression_reads max) (λ e. and_then max (sign max terminal.RightParen refl refl) (λ to. done_reads max e) refl) refl) refl

  name_argument_reads : Has max ANameArgument name_argument_at edges.name_argument
  unfolding name_argument_at same number_of
  name_argument_reads = and_then max (sign max terminal.LeftParen refl refl) (λ from. and_then max (name_reads max) (λ name. and_then max (sign max terminal.RightParen refl refl) (λ to. done_reads max name) refl) refl) refl

  after_colon_reads : Has max AfterColon (colon_at max) edges.after_colon
  unfolding colon_at same number_of
  after_colon_reads = or_else max terminal.Colon refl refl (λ colon. and_then max (expression_reads max) (λ e. done_reads max (Some e)) refl) (done_reads max None) refl

  names_reads : Has max Names names_at edges.names
  unfolding names_at same number_of
  names_reads = separated_reads max _ _ _ _ (name_reads max) refl

  names_behind_reads : Has max NamesBehind colons_names_at edges.names_behind
  unfolding colons_names_at same number_of
  names_behind_reads = and_then max (sign max terminal.DoubleColon refl refl) (λ colons. names_reads) refl

  bound_reads : Has max ABound (bound_at max) edges.bound
  unfolding bound_at same number_of
  bound_reads = and_then max (expression_reads max) (λ first. and_then max after_colon_reads (λ second. done_reads max (bound_of first second)) refl) refl

  shape_reads : Has max AShape (shape_at max) edges.shape
  unfolding shape_at enclosed_at same number_of
  shape_reads = and_then max (sign max terminal.LeftParen refl refl) (λ from. and_then max (separated_reads max _ _ _ _ bound_reads refl) (λ list. and_then max (sign max terminal.RightParen refl refl) (λ to. done_reads max list) refl) refl) refl

  own_shape_reads : Has max OwnShape (own_shape_at max) edges.own_shape
  unfolding own_shape_at same number_of
  own_shape_reads = either max (terminal.LeftParen ∷ []) (begins_tests terminal.LeftParen) shape_reads (done_reads max []) refl refl

  variable_reads : Has max AVariable (variable_at max) edges.variable
  unfolding variable_at same number_of
  variable_reads = and_then max (name_reads max) (λ name. and_then max own_shape_reads (λ shape. done_reads max (record { name = name; shape = shape })) refl) refl

  shaped_reads : Has max AShaped (shaped_at max) edges.shaped
  unfolding shaped_at same number_of
  shaped_reads = and_then max (name_reads max) (λ name. and_then max shape_reads (λ shape. done_reads max (record { name = name; shape = shape })) refl) refl

  array_reads : Has max AnArray (array_at max) edges.array
  unfolding array_at enclosed_at same number_of
  array_reads = and_then max (sign max terminal.LeftArray refl refl) (λ from. and_then max (separated_reads max _ _ _ _ (expression_reads max) refl) (λ list. and_then max (sign max terminal.RightArray refl refl) (λ to. done_reads max list) refl) refl) refl

  value_reads : Has max AValue (value_at max) edges.value
  unfolding value_at same number_of
  value_reads = in_words value_published value_in_order (either max (terminal.LeftArray ∷ []) (begins_tests terminal.LeftArray) (and_then max array_reads (λ list. done_reads max (Many list)) refl) (and_then max (expression_reads max) (λ e. done_reads max (One e)) refl) refl refl)

  constant_reads : Has max AConstant (constant_at max) edges.constant
  unfolding constant_at same number_of
  constant_reads = and_then max (name_reads max) (λ name. and_then max own_shape_reads (λ shape. and_then max (sign max terminal.Equals refl refl) (λ equals. and_then max value_reads (λ value. done_reads max (record { name = name; shape = shape; value = value })) refl) refl) refl) refl

  dimension_reads : Has max ADimension (dimension_at max) edges.dimension
  unfolding dimension_at same number_of
  dimension_reads = and_then max (sign max terminal.Dimension refl refl) (λ at. shape_reads) refl

  variables_reads : (common : List BoundTree) → Has max (SomeVariables common) (variables_at max common) edges.variables
  unfolding variables_at same number_of
  variables_reads common = and_then max (separated_reads max _ _ _ _ variable_reads refl) (λ names. done_reads max (Variables common names)) refl

  constants_reads : (common : List BoundTree) → Has max (ColonsConstants common) (constants_at max common) edges.constants
  unfolding constants_at same number_of
  constants_reads common = and_then max (sign max terminal.DoubleColon refl refl) (λ colons. and_then max (separated_reads max _ _ _ _ constant_reads refl) (λ names. done_reads max (Constants common names)) refl) refl

  behind_dimension_reads : (common : List BoundTree) → Has max (BehindDimension common) (behind_dimension_at max common) edges.behind_dimension
  unfolding behind_dimension_at same number_of
  behind_dimension_reads common = or_else max terminal.Comma refl refl (λ comma. and_then max (sign max terminal.Parameter refl refl) (λ at. (constants_reads common)) refl) (and_then max (sign max terminal.DoubleColon refl refl) (λ colons. (variables_reads common)) refl) refl

  more_dimension_reads : Has max MoreDimension (more_dimension_at max) edges.more_dimension
  unfolding more_dimension_at same number_of
  more_dimension_reads = or_else max terminal.Comma refl refl (λ comma. dimension_reads) (done_reads max []) refl

  attributes_reads : Has max Attributes (attributes_at max) edges.attributes
  unfolding attributes_at same number_of
  attributes_reads = either max (terminal.Dimension ∷ []) (begins_tests terminal.Dimension) (and_then max dimension_reads (λ common. (behind_dimension_reads common)) refl) (and_then max (sign max terminal.Parameter refl refl) (λ at. and_then max more_dimension_reads (λ common. (constants_reads common)) refl) refl) refl refl

  colons_reads : Has max MaybeColons skip_colons_at edges.colons
  unfolding skip_colons_at same number_of
  colons_reads = or_else max terminal.DoubleColon refl refl (λ colons. done_reads max tt) (done_reads max tt) refl

  integer_reads : Has max BehindInteger (integer_at max) edges.integer
  unfolding integer_at same number_of
  integer_reads = or_else max terminal.Comma refl refl (λ comma. attributes_reads) (and_then max colons_reads (λ colons. (variables_reads [])) refl) refl

  fortran_reads : Has max Fortran (fortran_at max) edges.fortran
  unfolding fortran_at same number_of
  fortran_reads = in_words fortran_published fortran_in_order (or_else max terminal.Implicit refl refl (λ at. and_then max (sign max terminal.NoneWord refl refl) (λ none. done_reads max (ImplicitNone at)) refl) (and_then max (sign max terminal.Integer refl refl) (λ at. integer_reads) refl) refl)

  format_width_reads : Has max FormatWidth (format_width_at max) edges.format_width
  unfolding format_width_at same number_of
  format_width_reads = either max (terminal.LeftParen ∷ []) (begins_tests terminal.LeftParen) (and_then max argument_reads (λ e. done_reads max (Some e)) refl) (done_reads max None) refl refl

  format_reads : Has max AFormat (format_at max) edges.format
  unfolding format_at same number_of
  format_reads = or_else max terminal.Star refl refl (λ at. done_reads max (Star at)) (or_else max terminal.Block refl refl (λ at. and_then max format_width_reads (λ width. done_reads max (Block at width)) refl) (or_else max terminal.Cyclic refl refl (λ at. and_then max format_width_reads (λ width. done_reads max (Cyclic at width)) refl) (or_else max terminal.GenBlock refl refl (λ at. and_then max name_argument_reads (λ name. done_reads max (GenBlock at name)) refl) (and_then max (sign max terminal.Indirect refl refl) (λ at. and_then max name_argument_reads (λ name. done_reads max (Indirect at name)) refl) refl) refl) refl) refl) refl

  formats_reads : Has max Formats (formats_at max) (edges.enclosed edges.format)
  unfolding formats_at enclosed_at same number_of
  formats_reads = and_then max (sign max terminal.LeftParen refl refl) (λ from. and_then max (separated_reads max _ _ _ _ format_reads refl) (λ list. and_then max (sign max terminal.RightParen refl refl) (λ to. done_reads max list) refl) refl) refl

  onto_reads : Has max Onto onto_at edges.onto
  unfolding onto_at same number_of
  onto_reads = or_else max terminal.Onto refl refl (λ at. and_then max (name_reads max) (λ name. done_reads max (Some name)) refl) (done_reads max None) refl

  of_names_reads : {A : Type 0} {R : Rule A} {r : Reading A} {first more : List Terminal} → Reads max R r first more false → apart edges.names_behind.first more ≡ true → apart first edges.name.first ≡ true
      → Reads max (OfNames R) (of_names_at r) (terminal.Name ∷ first) ((more ++ edges.names_behind.more) ++ []) false
  unfolding of_names_at same number_of
  of_names_reads {first = first} reads ends begins =
      either max (terminal.Name ∷ []) (begins_tests terminal.Name)
      (and_then max (name_reads max) (λ name. and_then max reads (λ x. done_reads max (name ∷ [], x)) refl) (apart_nothing first))
      (and_then max reads (λ x. and_then max names_behind_reads (λ names. done_reads max (names, x)) refl) ends)
      refl begins

  distribution_reads : Has max ADistribution (distribution_at max) edges.distribution
  unfolding distribution_at same number_of
  distribution_reads = and_then max formats_reads (λ formats. and_then max onto_reads (λ onto. done_reads max (formats, onto)) refl) refl

  distribute_reads : Has max (Then (OfNames ADistribution) (λ said. Done (Distribute said.0 said.1.0 said.1.1))) (distribute_at max) (edges.of_names edges.distribution)
  unfolding distribute_at same number_of
  distribute_reads = and_then max (of_names_reads distribution_reads refl refl) (λ said. done_reads max (Distribute said.0 said.1.0 said.1.1)) refl

  source_reads : Has max ASource source_at edges.source
  unfolding source_at same number_of
  source_reads = or_else max terminal.Colon refl refl (λ at. done_reads max (source.Colon at)) (or_else max terminal.Star refl refl (λ at. done_reads max (source.Star at)) (and_then max (name_reads max) (λ name. done_reads max (source.Dummy name)) refl) refl) refl

  source_list_reads : Has max (Enclosed terminal.LeftParen terminal.RightParen ASource) (enclosed_at terminal.LeftParen terminal.RightParen source_at) (edges.enclosed edges.source)
  unfolding enclosed_at same number_of
  source_list_reads = and_then max (sign max terminal.LeftParen refl refl) (λ from. and_then max (separated_reads max _ _ _ _ source_reads refl) (λ list. and_then max (sign max terminal.RightParen refl refl) (λ to. done_reads max list) refl) refl) refl

  sources_reads : Has max Sources (maybe_list_at source_at) edges.sources
  unfolding maybe_list_at same number_of
  sources_reads = either max (terminal.LeftParen ∷ []) (begins_tests terminal.LeftParen) (and_then max source_list_reads (λ list. done_reads max (Some list)) refl) (done_reads max None) refl refl

  maybe_expression_reads : Has max MaybeExpression (maybe_expression_at max) edges.maybe_expression
  unfolding maybe_expression_at same number_of
  maybe_expression_reads = either max expression_first expression_tests (and_then max (expression_reads max) (λ e. done_reads max (Some e)) refl) (done_reads max None) refl refl

  triplet_reads : (low : Option Tree) → Has max (ATriplet low) (triplet_at max low) edges.triplet
  unfolding triplet_at same number_of
  triplet_reads low = or_else max terminal.DoubleColon refl refl (λ at. and_then max (expression_reads max) (λ step. done_reads max (Triplet at low None (Some step))) refl) (and_then max (sign max terminal.Colon refl refl) (λ at. and_then max maybe_expression_reads (λ high. and_then max after_colon_reads (λ step. done_reads max (Triplet at low high step)) refl) refl) refl) refl

  sub_reads : Has max ASub (sub_at max) edges.sub
  unfolding sub_at same number_of
  sub_reads = in_words sub_published sub_in_order (or_else max terminal.Star refl refl (λ at. done_reads max (AnyPlace at)) (either max (terminal.DoubleColon ∷ terminal.Colon ∷ []) triplet_tests (triplet_reads None) (and_then max (expression_reads max) (λ e. either max (terminal.DoubleColon ∷ terminal.Colon ∷ []) triplet_tests (triplet_reads (Some e)) (done_reads max (OnePlace e)) refl refl) refl) refl refl) refl)

  sub_list_reads : Has max (Enclosed terminal.LeftParen terminal.RightParen ASub) (enclosed_at terminal.LeftParen terminal.RightParen (sub_at max)) (edges.enclosed edges.sub)
  unfolding enclosed_at same number_of
  sub_list_reads = and_then max (sign max terminal.LeftParen refl refl) (λ from. and_then max (separated_reads max _ _ _ _ sub_reads refl) (λ list. and_then max (sign max terminal.RightParen refl refl) (λ to. done_reads max list) refl) refl) refl

  subs_reads : Has max Subs (maybe_list_at (sub_at max)) edges.subs
  unfolding maybe_list_at same number_of
  subs_reads = either max (terminal.LeftParen ∷ []) (begins_tests terminal.LeftParen) (and_then max sub_list_reads (λ list. done_reads max (Some list)) refl) (done_reads max None) refl refl

  alignment_reads : Has max AnAlignment (alignment_at max) edges.alignment
  unfolding alignment_at same number_of
  alignment_reads = and_then max sources_reads (λ sources. and_then max (sign max terminal.With refl refl) (λ word. and_then max (name_reads max) (λ base. and_then max subs_reads (λ subs. done_reads max (sources, base, subs)) refl) refl) refl) refl

  align_reads : Has max (Then (OfNames AnAlignment) (λ said. Done (Align said.0 said.1.0 said.1.1 said.1.2))) (align_at max) (edges.of_names edges.alignment)
  unfolding align_at same number_of
  align_reads = and_then max (of_names_reads alignment_reads refl refl) (λ said. done_reads max (Align said.0 said.1.0 said.1.1 said.1.2)) refl

  width_reads : Has max AWidth (width_at max) edges.width
  unfolding width_at same number_of
  width_reads = and_then max (expression_reads max) (λ low. and_then max after_colon_reads (λ high. done_reads max (record { low = low; high = high })) refl) refl

  widths_reads : Has max Widths (widths_at max) edges.widths
  unfolding widths_at enclosed_at same number_of
  widths_reads = and_then max (sign max terminal.LeftParen refl refl) (λ from. and_then max (separated_reads max _ _ _ _ width_reads refl) (λ list. and_then max (sign max terminal.RightParen refl refl) (λ to. done_reads max list) refl) refl) refl

  shadow_reads : Has max (Then (OfNames Widths) (λ said. Done (Shadow said.0 said.1))) (shadow_at max) (edges.of_names edges.widths)
  unfolding shadow_at same number_of
  shadow_reads = and_then max (of_names_reads widths_reads refl refl) (λ said. done_reads max (Shadow said.0 said.1)) refl

  directive_reads : Has max ADirective (directive_at max) edges.directive
  unfolding directive_at same number_of
  directive_reads = or_else max terminal.Processors refl refl (λ at. and_then max (separated_reads max _ _ _ _ shaped_reads refl) (λ names. done_reads max (Processors names)) refl) (or_else max terminal.Template refl refl (λ at. and_then max (separated_reads max _ _ _ _ shaped_reads refl) (λ names. done_reads max (Template names)) refl) (or_else max terminal.Distribute refl refl (λ at. distribute_reads) (or_else max terminal.Align refl refl (λ at. align_reads) (and_then max (sign max terminal.Shadow refl refl) (λ at. shadow_reads) refl) refl) refl) refl) refl

  buffers_reads : Has max Buffers (buffers_at max) edges.buffers
  unfolding buffers_at same number_of
  buffers_reads = or_else max terminal.Buffers refl refl (λ at. and_then max argument_reads (λ e. done_reads max (Some e)) refl) (done_reads max None) refl

  stencil_reads : (at : At) → Has max (AStencil at) (stencil_at max at) edges.stencil
  unfolding stencil_at same number_of
  stencil_reads at = and_then max (sign max terminal.LeftParen refl refl) (λ from. and_then max (expression_reads max) (λ e. and_then max (sign max terminal.Comma refl refl) (λ comma. and_then max array_reads (λ weights. and_then max (sign max terminal.RightParen refl refl) (λ to. done_reads max (Stencil at e weights)) refl) refl) refl) refl) refl

  operation_reads : Has max Operation (operation_at max) edges.operation
  unfolding operation_at same number_of
  operation_reads = or_else max terminal.Add refl refl (λ at. and_then max argument_reads (λ e. done_reads max (Add at e)) refl) (or_else max terminal.Mul refl refl (λ at. and_then max argument_reads (λ e. done_reads max (Mul at e)) refl) (or_else max terminal.Prefix refl refl (λ at. and_then max argument_reads (λ e. done_reads max (Prefix at e)) refl) (or_else max terminal.Stencil refl refl (λ at. (stencil_reads at)) (done_reads max Plain) refl) refl) refl) refl

  expression_list_reads : Has max (Enclosed terminal.LeftParen terminal.RightParen AnExpression) (enclosed_at terminal.LeftParen terminal.RightParen (expression_at max)) (edges.enclosed edges.expression)
  unfolding enclosed_at same number_of
  expression_list_reads = and_then max (sign max terminal.LeftParen refl refl) (λ from. and_then max (separated_reads max _ _ _ _ (expression_reads max) refl) (λ list. and_then max (sign max terminal.RightParen refl refl) (λ to. done_reads max list) refl) refl) refl

  permute_reads : Has max Permute (permute_at max) edges.permute
  unfolding permute_at same number_of
  permute_reads = or_else max terminal.Permute refl refl (λ at. and_then max expression_list_reads (λ list. done_reads max (Some list)) refl) (done_reads max None) refl

  input_reads : (at : At) → Has max (AnInput at) (input_at max at) edges.input
  unfolding input_at same number_of
  input_reads at = and_then max (name_reads max) (λ name. and_then max buffers_reads (λ buffers. and_then max operation_reads (λ op. done_reads max (Input at name buffers op)) refl) refl) refl

  stage_reads : (at : At) → Has max (AStage at) (stage_at max at) edges.stage
  unfolding stage_at same number_of
  stage_reads at = and_then max (name_reads max) (λ name. and_then max permute_reads (λ permute. and_then max buffers_reads (λ buffers. and_then max operation_reads (λ op. done_reads max (Stage at name permute buffers op)) refl) refl) refl) refl

  pipeline_reads : Has max APipeline (pipeline_at max) edges.pipeline
  unfolding pipeline_at same number_of
  pipeline_reads = or_else max terminal.Input refl refl (λ at. (input_reads at)) (and_then max (sign max terminal.Stage refl refl) (λ at. (stage_reads at)) refl) refl

  pub statement_reads : Has max AStatement (line_at max) edges.statement
  unfolding line_at same number_of
  statement_reads = in_words statement_published statement_in_order (or_else max terminal.Hpf refl refl (λ at. directive_reads) (or_else max terminal.Pipe refl refl (λ at. pipeline_reads) fortran_reads refl) refl)

  -- a statement and its end
  pub line_core : Core max ALine (statement_at max) edges.statement.first [] false
  unfolding statement_at same number_of
  line_core =
      then_core max AStatement (line_at max) (λ item. Then (Sign terminal.End) (λ end. Done item)) (λ item. then_at (take_at terminal.End) (λ end ts. Ok (item, ts)))
      edges.statement.first edges.statement.more false (terminal.End ∷ []) [] false statement_reads.core
      (λ item. then_core max (Sign terminal.End) (take_at terminal.End) (λ end. Done item) (λ end ts. Ok (item, ts)) (terminal.End ∷ []) [] false [] [] true (sign_core max terminal.End refl) (λ end. (done_reads max item).core) refl) refl
