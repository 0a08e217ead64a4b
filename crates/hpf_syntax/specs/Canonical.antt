-- The canonical text of a mapping text: one line for each statement, words in upper case, and no more blanks and
-- parentheses than stand here (this project defines it).
use Rattle.std.specs.Prelude.{ℕ, List, [], ◌∷◌, ◌++◌, codes, Option, Some, None, Bool, true, false, ◌||◌, if◌then◌else◌}
use Rattle.std.specs.List.{flat_map}
use Rattle.std.specs.Fmt.{decimal}
use Rattle.hpf_syntax.specs.declared.tree.Spot.{Spot}
use Rattle.hpf_syntax.specs.declared.tree.SourceItem.{SourceItem}
use Rattle.hpf_syntax.specs.declared.tree.SourceItem.TheVariants as source
use Rattle.hpf_syntax.specs.Plain.{Tree, Number, Name, Neg, Plus, Minus, Times, BoundTree, DeclaredTree, ValueTree, One, Many, ConstantTree, FormatTree, Star, Block, Cyclic, GenBlock, Indirect, SubTree, AnyPlace, OnePlace, Triplet, WidthTree, OpTree, Plain, Add, Mul, Prefix, Stencil, ItemTree, ImplicitNone, Variables, Constants, Processors, Template, Distribute, Align, Shadow, Input, Stage}

-- ---- pieces

abbrev pub parenthesized : List ℕ → List ℕ
parenthesized text = codes "(" ++ (text ++ codes ")")

-- in parentheses where they are needed
abbrev pub guarded : Bool → List ℕ → List ℕ
guarded needed text = if needed then parenthesized text else text

-- one after another, with a comma and a blank between two
abbrev pub listed : {A : Type 0} → (A → List ℕ) → List A → List ℕ
listed text [] = []
listed text (x ∷ []) = text x
listed text (x ∷ y ∷ ys) = text x ++ (codes ", " ++ listed text (y ∷ ys))

-- what stands there, if anything does, behind what announces it
abbrev pub optional : {A : Type 0} → List ℕ → (A → List ℕ) → Option A → List ℕ
optional before text None = []
optional before text (Some x) = before ++ text x

abbrev pub name_text : Spot → List ℕ
name_text name = name.word

-- ---- expressions

-- a sum, a difference or a negation
abbrev pub is_sum : Tree → Bool
is_sum (Number at n) = false
is_sum (Name at word) = false
is_sum (Neg at e) = true
is_sum (Plus at a b) = true
is_sum (Minus at a b) = true
is_sum (Times at a b) = false

abbrev pub is_product : Tree → Bool
is_product (Number at n) = false
is_product (Name at word) = false
is_product (Neg at e) = false
is_product (Plus at a b) = false
is_product (Minus at a b) = false
is_product (Times at a b) = true

-- The right operand of a sum or difference, each operand of a product and that of a negation are in parentheses where
-- they are sums, and the right one of a product also where it is a product.
abbrev pub expression_text : Tree → List ℕ
expression_text (Number at n) = decimal n
expression_text (Name at word) = word
expression_text (Neg at e) = codes "-" ++ guarded (is_sum e) (expression_text e)
expression_text (Plus at a b) = expression_text a ++ (codes "+" ++ guarded (is_sum b) (expression_text b))
expression_text (Minus at a b) = expression_text a ++ (codes "-" ++ guarded (is_sum b) (expression_text b))
expression_text (Times at a b) =
    guarded (is_sum a) (expression_text a) ++ (codes "*" ++ guarded (is_sum b || is_product b) (expression_text b))

-- an expression behind a colon, if there is one
abbrev pub colon_text : Option Tree → List ℕ
colon_text e = optional (codes ":") expression_text e

abbrev pub argument_text : Tree → List ℕ
argument_text e = parenthesized (expression_text e)

abbrev pub array_text : List Tree → List ℕ
array_text es = codes "(/ " ++ (listed expression_text es ++ codes " /)")

-- ---- declarations

-- an expression with a colon behind it, if there is one
abbrev pub low_text : Option Tree → List ℕ
low_text None = []
low_text (Some e) = expression_text e ++ codes ":"

abbrev pub bound_text : BoundTree → List ℕ
bound_text b = low_text b.low ++ expression_text b.high

-- a shape, if there is one
abbrev pub shape_text : List BoundTree → List ℕ
shape_text [] = []
shape_text (b ∷ bs) = parenthesized (listed bound_text (b ∷ bs))

abbrev pub declared_text : DeclaredTree → List ℕ
declared_text d = name_text d.name ++ shape_text d.shape

abbrev pub value_text : ValueTree → List ℕ
value_text (One e) = expression_text e
value_text (Many es) = array_text es

abbrev pub constant_text : ConstantTree → List ℕ
constant_text c = name_text c.name ++ (shape_text c.shape ++ (codes " = " ++ value_text c.value))

-- the shape that names have in common, if there is one
abbrev pub dimension_text : List BoundTree → List ℕ
dimension_text [] = []
dimension_text (b ∷ bs) = codes ", DIMENSION" ++ shape_text (b ∷ bs)

-- what stands between INTEGER and the names of variables
abbrev pub before_variables : List BoundTree → List ℕ
before_variables [] = codes " "
before_variables (b ∷ bs) = dimension_text (b ∷ bs) ++ codes " :: "

-- ---- directives

abbrev pub format_text : FormatTree → List ℕ
format_text (Star at) = codes "*"
format_text (Block at None) = codes "BLOCK"
format_text (Block at (Some e)) = codes "BLOCK" ++ argument_text e
format_text (Cyclic at None) = codes "CYCLIC"
format_text (Cyclic at (Some e)) = codes "CYCLIC" ++ argument_text e
format_text (GenBlock at name) = codes "GEN_BLOCK" ++ parenthesized (name_text name)
format_text (Indirect at name) = codes "INDIRECT" ++ parenthesized (name_text name)

abbrev pub source_text : SourceItem → List ℕ
source_text (source.Colon at) = codes ":"
source_text (source.Star at) = codes "*"
source_text (source.Dummy name) = name_text name

abbrev pub sub_text : SubTree → List ℕ
sub_text (AnyPlace at) = codes "*"
sub_text (OnePlace e) = expression_text e
sub_text (Triplet at low high step) =
    optional [] expression_text low ++ (codes ":" ++ (optional [] expression_text high ++ colon_text step))

abbrev pub width_text : WidthTree → List ℕ
width_text w = expression_text w.low ++ colon_text w.high

abbrev pub formats_text : List FormatTree → List ℕ
formats_text formats = parenthesized (listed format_text formats)

abbrev pub widths_text : List WidthTree → List ℕ
widths_text widths = parenthesized (listed width_text widths)

abbrev pub sources_text : List ℕ → Option (List SourceItem) → List ℕ
sources_text before sources = optional before (λ list. parenthesized (listed source_text list)) sources

abbrev pub subs_text : Option (List SubTree) → List ℕ
subs_text subs = optional [] (λ list. parenthesized (listed sub_text list)) subs

abbrev pub onto_text : Option Spot → List ℕ
onto_text onto = optional (codes " ONTO ") name_text onto

-- what an alignee is aligned with
abbrev pub with_text : Spot → Option (List SubTree) → List ℕ
with_text base subs = codes " WITH " ++ (name_text base ++ subs_text subs)

-- What a directive says of names: of one name behind that name, and of several before them and two colons.
abbrev pub of_names : List Spot → List ℕ → List ℕ → List ℕ
of_names [] behind alone = alone ++ codes " :: "
of_names (name ∷ []) behind alone = codes " " ++ (name_text name ++ behind)
of_names (name ∷ other ∷ others) behind alone = alone ++ (codes " :: " ++ listed name_text (name ∷ other ∷ others))

-- ---- pipelines

abbrev pub permute_text : Option (List Tree) → List ℕ
permute_text permute = optional (codes " PERMUTE") (λ list. parenthesized (listed expression_text list)) permute

abbrev pub buffers_text : Option Tree → List ℕ
buffers_text buffers = optional (codes " BUFFERS") argument_text buffers

abbrev pub operation_text : OpTree → List ℕ
operation_text Plain = []
operation_text (Add at e) = codes " ADD" ++ argument_text e
operation_text (Mul at e) = codes " MUL" ++ argument_text e
operation_text (Prefix at e) = codes " PREFIX" ++ argument_text e
operation_text (Stencil at e weights) = codes " STENCIL" ++ parenthesized (expression_text e ++ (codes ", " ++ array_text weights))

-- ---- the text

abbrev pub statement_text : ItemTree → List ℕ
statement_text (ImplicitNone at) = codes "IMPLICIT NONE"
statement_text (Variables common names) = codes "INTEGER" ++ (before_variables common ++ listed declared_text names)
statement_text (Constants common names) =
    codes "INTEGER, PARAMETER" ++ (dimension_text common ++ (codes " :: " ++ listed constant_text names))
statement_text (Processors names) = codes "!HPF$ PROCESSORS " ++ listed declared_text names
statement_text (Template names) = codes "!HPF$ TEMPLATE " ++ listed declared_text names
statement_text (Distribute names formats onto) =
    let said = formats_text formats ++ onto_text onto in
    codes "!HPF$ DISTRIBUTE" ++ of_names names said (codes " " ++ said)
statement_text (Align names sources base subs) =
    codes "!HPF$ ALIGN" ++ of_names names (sources_text (codes "") sources ++ with_text base subs) (sources_text (codes " ") sources ++ with_text base subs)
statement_text (Shadow names widths) =
    codes "!HPF$ SHADOW" ++ of_names names (widths_text widths) (codes " " ++ widths_text widths)
statement_text (Input at name buffers op) =
    codes "!PIPE$ INPUT " ++ (name_text name ++ (buffers_text buffers ++ operation_text op))
statement_text (Stage at name permute buffers op) =
    codes "!PIPE$ STAGE " ++ (name_text name ++ (permute_text permute ++ (buffers_text buffers ++ operation_text op)))

abbrev pub line_text : ItemTree → List ℕ
line_text item = statement_text item ++ codes "\n"

unfoldable pub canonical : List ItemTree → List ℕ
canonical items = flat_map line_text items
