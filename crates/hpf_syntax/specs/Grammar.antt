-- The grammar of mapping texts (this project defines it, after Fortran 90 and High Performance Fortran 2.0).
-- `Sign t` is the token t, `Separated R` is `R { "," R }`, `or` is a choice, `Done x` is nothing, with the value x, and
-- `OfNames X` is `name X | X "::" names`.
-- Each rule has the alternatives of the published grammar (docs/formats.md), in its order.
use Rattle.std.specs.Prelude.{◌≡◌, List, [], ◌∷◌, ◌++◌, Option, Some, None}
use Rattle.hpf_syntax.specs.declared.tree.At.{At}
use Rattle.hpf_syntax.specs.declared.tree.Spot.{Spot}
use Rattle.hpf_syntax.specs.declared.tree.SourceItem.{SourceItem}
use Rattle.hpf_syntax.specs.declared.tree.SourceItem.TheVariants as source
use Rattle.hpf_syntax.specs.declared.terminal.Terminal.{Terminal}
use Rattle.hpf_syntax.specs.declared.terminal.Terminal.TheVariants as terminal
use Rattle.hpf_syntax.specs.Plain.{Tree, BoundTree, bound_of, DeclaredTree, ValueTree, One, Many, ConstantTree, FormatTree, Star, Block, Cyclic, GenBlock, Indirect, SubTree, AnyPlace, OnePlace, Triplet, WidthTree, OpTree, Plain, Add, Mul, Prefix, Stencil, ItemTree, ImplicitNone, Variables, Constants, Processors, Template, Distribute, Align, Shadow, Input, Stage}
use Rattle.hpf_syntax.specs.Rules.{Counted, Rule, Done, ◌>>=◌, ◌or◌, Sign, AName, AnExpression, Separated}

-- ---- pieces

-- opening R { "," R } closing
abbrev pub Enclosed : {A : Type 0} → Terminal → Terminal → Rule A → Rule (List A)
Enclosed opening closing R = do
  from ← Sign opening
  list ← Separated R
  to ← Sign closing
  Done list

-- "(" expr ")"
abbrev pub AnArgument : Rule Tree
AnArgument = do
  from ← Sign terminal.LeftParen
  e ← AnExpression
  to ← Sign terminal.RightParen
  Done e

-- "(" name ")"
abbrev pub ANameArgument : Rule Spot
ANameArgument = do
  from ← Sign terminal.LeftParen
  name ← AName
  to ← Sign terminal.RightParen
  Done name

-- [ ":" expr ]
abbrev pub AfterColon : Rule (Option Tree)
AfterColon = (Sign terminal.Colon >>= λ colon. AnExpression >>= λ e. Done (Some e)) or Done None

-- name { "," name }
abbrev pub Names : Rule (List Spot)
Names = Separated AName

-- "::" names
abbrev pub NamesBehind : Rule (List Spot)
NamesBehind = Sign terminal.DoubleColon >>= λ colons. Names

-- name X | X "::" names: what is said of one name stands behind it, and of several before them
abbrev pub OfNames : {A : Type 0} → Rule A → Rule (List Spot × A)
OfNames X =
    (AName >>= λ name. X >>= λ x. Done (name ∷ [], x))
    or (X >>= λ x. NamesBehind >>= λ names. Done (names, x))

-- [ R ]
abbrev pub Maybe : {A : Type 0} → Rule A → Rule (Option A)
Maybe R = (R >>= λ x. Done (Some x)) or Done None

-- [ "(" R { "," R } ")" ]
abbrev pub MaybeList : {A : Type 0} → Rule A → Rule (Option (List A))
MaybeList R = Maybe (Enclosed terminal.LeftParen terminal.RightParen R)

-- ---- declarations

-- bound = expr [ ":" expr ]
abbrev pub ABound : Rule BoundTree
ABound = do
  first ← AnExpression
  second ← AfterColon
  Done (bound_of first second)

-- "(" shape ")", where shape = bound { "," bound }
abbrev pub AShape : Rule (List BoundTree)
AShape = Enclosed terminal.LeftParen terminal.RightParen ABound

-- [ "(" shape ")" ]
abbrev pub OwnShape : Rule (List BoundTree)
OwnShape = AShape or Done []

-- variable = name [ "(" shape ")" ]
abbrev pub AVariable : Rule DeclaredTree
AVariable = do
  name ← AName
  shape ← OwnShape
  Done (record { name = name; shape = shape })

-- shaped = name "(" shape ")"
abbrev pub AShaped : Rule DeclaredTree
AShaped = do
  name ← AName
  shape ← AShape
  Done (record { name = name; shape = shape })

-- array = "(/" expr { "," expr } "/)"
abbrev pub AnArray : Rule (List Tree)
AnArray = Enclosed terminal.LeftArray terminal.RightArray AnExpression

-- value = expr | array
abbrev pub AValue : Rule ValueTree
AValue = (AnExpression >>= λ e. Done (One e)) or (AnArray >>= λ list. Done (Many list))

-- constant = name [ "(" shape ")" ] "=" value
abbrev pub AConstant : Rule ConstantTree
AConstant = do
  name ← AName
  shape ← OwnShape
  equals ← Sign terminal.Equals
  value ← AValue
  Done (record { name = name; shape = shape; value = value })

-- dimension = "DIMENSION" "(" shape ")"
abbrev pub ADimension : Rule (List BoundTree)
ADimension = Sign terminal.Dimension >>= λ at. AShape

-- variables = variable { "," variable }, with the shape that they have in common
abbrev pub SomeVariables : List BoundTree → Rule ItemTree
SomeVariables common = Separated AVariable >>= λ names. Done (Variables common names)

-- constants = constant { "," constant }, with the shape that they have in common
abbrev pub SomeConstants : List BoundTree → Rule ItemTree
SomeConstants common = Separated AConstant >>= λ names. Done (Constants common names)

-- [ "::" ]
abbrev pub MaybeColons : Rule (Unit {0})
MaybeColons = (Sign terminal.DoubleColon >>= λ colons. Done tt) or Done tt

-- fortran = "IMPLICIT" "NONE"
--         | "INTEGER" [ "::" ] variables
--         | "INTEGER" "," dimension "::" variables
--         | "INTEGER" "," "PARAMETER" "::" constants
--         | "INTEGER" "," "PARAMETER" "," dimension "::" constants
--         | "INTEGER" "," dimension "," "PARAMETER" "::" constants
abbrev pub Fortran : Rule ItemTree
Fortran =
    (Sign terminal.Implicit >>= λ at. Sign terminal.NoneWord >>= λ none. Done (ImplicitNone at))
    or ((Sign terminal.Integer >>= λ at. MaybeColons >>= λ colons. SomeVariables [])
    or ((Sign terminal.Integer >>= λ at. Sign terminal.Comma >>= λ comma. ADimension >>= λ common. Sign terminal.DoubleColon >>= λ colons. SomeVariables common)
    or ((Sign terminal.Integer >>= λ at. Sign terminal.Comma >>= λ comma. Sign terminal.Parameter >>= λ word. Sign terminal.DoubleColon >>= λ colons. SomeConstants [])
    or ((Sign terminal.Integer >>= λ at. Sign terminal.Comma >>= λ comma. Sign terminal.Parameter >>= λ word. Sign terminal.Comma >>= λ other. ADimension >>= λ common. Sign terminal.DoubleColon >>= λ colons. SomeConstants common)
    or (Sign terminal.Integer >>= λ at. Sign terminal.Comma >>= λ comma. ADimension >>= λ common. Sign terminal.Comma >>= λ other. Sign terminal.Parameter >>= λ word. Sign terminal.DoubleColon >>= λ colons. SomeConstants common)))))

-- ---- directives

-- [ "(" expr ")" ]
abbrev pub FormatWidth : Rule (Option Tree)
FormatWidth = Maybe AnArgument

-- format = "*" | "BLOCK" [ "(" expr ")" ] | "CYCLIC" [ "(" expr ")" ] | "GEN_BLOCK" "(" name ")" | "INDIRECT" "(" name ")"
abbrev pub AFormat : Rule FormatTree
AFormat =
    (Sign terminal.Star >>= λ at. Done (Star at))
    or ((Sign terminal.Block >>= λ at. FormatWidth >>= λ width. Done (Block at width))
    or ((Sign terminal.Cyclic >>= λ at. FormatWidth >>= λ width. Done (Cyclic at width))
    or ((Sign terminal.GenBlock >>= λ at. ANameArgument >>= λ name. Done (GenBlock at name))
    or (Sign terminal.Indirect >>= λ at. ANameArgument >>= λ name. Done (Indirect at name)))))

-- "(" formats ")"
abbrev pub Formats : Rule (List FormatTree)
Formats = Enclosed terminal.LeftParen terminal.RightParen AFormat

-- [ "ONTO" name ]
abbrev pub Onto : Rule (Option Spot)
Onto = (Sign terminal.Onto >>= λ at. AName >>= λ name. Done (Some name)) or Done None

-- "(" formats ")" [ "ONTO" name ]
abbrev pub ADistribution : Rule (List FormatTree × Option Spot)
ADistribution = do
  formats ← Formats
  onto ← Onto
  Done (formats, onto)

-- source = ":" | "*" | name
abbrev pub ASource : Rule SourceItem
ASource =
    (Sign terminal.Colon >>= λ at. Done (source.Colon at))
    or ((Sign terminal.Star >>= λ at. Done (source.Star at)) or (AName >>= λ name. Done (source.Dummy name)))

-- [ "(" sources ")" ]
abbrev pub Sources : Rule (Option (List SourceItem))
Sources = MaybeList ASource

-- [ expr ]
abbrev pub MaybeExpression : Rule (Option Tree)
MaybeExpression = Maybe AnExpression

-- triplet = [ expr ] ":" [ expr ] [ ":" expr ]
--         | [ expr ] "::" expr
abbrev pub ATriplet : Rule SubTree
ATriplet =
    (MaybeExpression >>= λ low. Sign terminal.Colon >>= λ at. MaybeExpression >>= λ high. AfterColon >>= λ step. Done (Triplet at low high step))
    or (MaybeExpression >>= λ low. Sign terminal.DoubleColon >>= λ at. AnExpression >>= λ step. Done (Triplet at low None (Some step)))

-- sub = "*" | expr | triplet
abbrev pub ASub : Rule SubTree
ASub = (Sign terminal.Star >>= λ at. Done (AnyPlace at)) or ((AnExpression >>= λ e. Done (OnePlace e)) or ATriplet)

-- [ "(" subs ")" ]
abbrev pub Subs : Rule (Option (List SubTree))
Subs = MaybeList ASub

-- [ "(" sources ")" ] "WITH" name [ "(" subs ")" ]
abbrev pub AnAlignment : Rule (Option (List SourceItem) × Spot × Option (List SubTree))
AnAlignment = do
  sources ← Sources
  word ← Sign terminal.With
  base ← AName
  subs ← Subs
  Done (sources, base, subs)

-- width = expr [ ":" expr ]
abbrev pub AWidth : Rule WidthTree
AWidth = do
  low ← AnExpression
  high ← AfterColon
  Done (record { low = low; high = high })

-- "(" widths ")"
abbrev pub Widths : Rule (List WidthTree)
Widths = Enclosed terminal.LeftParen terminal.RightParen AWidth

-- directive = "PROCESSORS" shaped { "," shaped }
--           | "TEMPLATE" shaped { "," shaped }
--           | "DISTRIBUTE" name "(" formats ")" [ "ONTO" name ]
--           | "DISTRIBUTE" "(" formats ")" [ "ONTO" name ] "::" names
--           | "ALIGN" name [ "(" sources ")" ] "WITH" name [ "(" subs ")" ]
--           | "ALIGN" [ "(" sources ")" ] "WITH" name [ "(" subs ")" ] "::" names
--           | "SHADOW" name "(" widths ")"
--           | "SHADOW" "(" widths ")" "::" names
abbrev pub ADirective : Rule ItemTree
ADirective =
    (Sign terminal.Processors >>= λ at. Separated AShaped >>= λ names. Done (Processors names))
    or ((Sign terminal.Template >>= λ at. Separated AShaped >>= λ names. Done (Template names))
    or ((Sign terminal.Distribute >>= λ at. OfNames ADistribution >>= λ said. Done (Distribute said.0 said.1.0 said.1.1))
    or ((Sign terminal.Align >>= λ at. OfNames AnAlignment >>= λ said. Done (Align said.0 said.1.0 said.1.1 said.1.2))
    or (Sign terminal.Shadow >>= λ at. OfNames Widths >>= λ said. Done (Shadow said.0 said.1)))))

-- ---- pipelines

-- [ "BUFFERS" "(" expr ")" ]
abbrev pub Buffers : Rule (Option Tree)
Buffers = (Sign terminal.Buffers >>= λ at. AnArgument >>= λ e. Done (Some e)) or Done None

-- behind "STENCIL": "(" expr "," array ")"
abbrev pub AStencil : At → Rule OpTree
AStencil at = do
  from ← Sign terminal.LeftParen
  e ← AnExpression
  comma ← Sign terminal.Comma
  weights ← AnArray
  to ← Sign terminal.RightParen
  Done (Stencil at e weights)

-- [ "ADD" "(" expr ")" | "MUL" "(" expr ")" | "PREFIX" "(" expr ")" | "STENCIL" .. ]
abbrev pub Operation : Rule OpTree
Operation =
    (Sign terminal.Add >>= λ at. AnArgument >>= λ e. Done (Add at e))
    or ((Sign terminal.Mul >>= λ at. AnArgument >>= λ e. Done (Mul at e))
    or ((Sign terminal.Prefix >>= λ at. AnArgument >>= λ e. Done (Prefix at e))
    or ((Sign terminal.Stencil >>= λ at. AStencil at) or Done Plain)))

-- [ "PERMUTE" "(" expr { "," expr } ")" ]
abbrev pub Permute : Rule (Option (List Tree))
Permute =
    (Sign terminal.Permute >>= λ at. Enclosed terminal.LeftParen terminal.RightParen AnExpression >>= λ list. Done (Some list))
    or Done None

-- name [ buffers ] [ operation ]
abbrev pub AnInput : At → Rule ItemTree
AnInput at = do
  name ← AName
  buffers ← Buffers
  op ← Operation
  Done (Input at name buffers op)

-- name [ permute ] [ buffers ] [ operation ]
abbrev pub AStage : At → Rule ItemTree
AStage at = do
  name ← AName
  permute ← Permute
  buffers ← Buffers
  op ← Operation
  Done (Stage at name permute buffers op)

-- pipeline = "INPUT" .. | "STAGE" ..
abbrev pub APipeline : Rule ItemTree
APipeline = (Sign terminal.Input >>= λ at. AnInput at) or (Sign terminal.Stage >>= λ at. AStage at)

-- ---- the text

-- statement = fortran | Hpf directive | Pipe pipeline
abbrev pub AStatement : Rule ItemTree
AStatement = Fortran or ((Sign terminal.Hpf >>= λ at. ADirective) or (Sign terminal.Pipe >>= λ at. APipeline))

-- statement End
abbrev pub ALine : Rule ItemTree
ALine = do
  item ← AStatement
  end ← Sign terminal.End
  Done item

-- text = { statement End }
abbrev pub IsText : List Counted → List ItemTree → Type 0
IsText cs [] = cs ≡ []
IsText cs (x ∷ xs) = (front : List Counted) × (back : List Counted) × ALine front x × IsText back xs × (cs ≡ front ++ back)
