-- What the rules of the grammar may begin with and go on with, rule by rule, as they are read from left to right.
use Rattle.std.proofs.Common.{Bool, true, false, cond, ◌&&◌, List, [], ◌∷◌, ◌++◌}
use Rattle.hpf_syntax.specs.declared.terminal.Terminal.{Terminal}
use Rattle.hpf_syntax.specs.declared.terminal.Terminal.TheVariants as terminal
use Rattle.hpf_syntax.proofs.Laws.{joined_first, joined_more}
use Rattle.hpf_syntax.proofs.ExpressionLaw.{expression_first, expression_more}

-- the tokens that a rule may begin with, those with which what it takes may go on, and whether it may take nothing
pub record Edges : Type 0 where
  pub first : List Terminal
  pub more : List Terminal
  pub empty : Bool

abbrev pub nothing : Edges
nothing = record { first = []; more = []; empty = true }

abbrev pub sign : Terminal → Edges
sign wanted = record { first = wanted ∷ []; more = []; empty = false }

-- one rule and then another
infixr 10 ◌>>◌
abbrev pub ◌>>◌ : Edges → Edges → Edges
a >> b = record { first = joined_first a.empty a.first b.first; more = joined_more b.empty b.more a.more; empty = a.empty && b.empty }

-- a rule that takes something, or another
infixr 5 ◌or◌
abbrev pub ◌or◌ : Edges → Edges → Edges
a or b = record { first = a.first ++ b.first; more = (a.more ++ b.more) ++ cond b.empty a.first []; empty = b.empty }

-- a rule that takes something, once or more, with commas between
abbrev pub separated : Edges → Edges
separated a = record { first = a.first; more = (a.more ++ terminal.Comma ∷ []) ++ a.more; empty = false }

-- ---- pieces

abbrev pub enclosed : Edges → Edges
enclosed a = sign terminal.LeftParen >> separated a >> sign terminal.RightParen

abbrev pub name : Edges
name = sign terminal.Name

abbrev pub expression : Edges
expression = record { first = expression_first; more = expression_more; empty = false }

abbrev pub argument : Edges
argument = sign terminal.LeftParen >> expression >> sign terminal.RightParen

abbrev pub name_argument : Edges
name_argument = sign terminal.LeftParen >> name >> sign terminal.RightParen

abbrev pub after_colon : Edges
after_colon = sign terminal.Colon >> expression or nothing

abbrev pub names : Edges
names = separated name

abbrev pub names_behind : Edges
names_behind = sign terminal.DoubleColon >> names

abbrev pub of_names : Edges → Edges
of_names a = name >> a or a >> names_behind

-- ---- declarations

abbrev pub bound : Edges
bound = expression >> after_colon

abbrev pub shape : Edges
shape = enclosed bound

abbrev pub own_shape : Edges
own_shape = shape or nothing

abbrev pub variable : Edges
variable = name >> own_shape

abbrev pub shaped : Edges
shaped = name >> shape

abbrev pub array : Edges
array = sign terminal.LeftArray >> separated expression >> sign terminal.RightArray

abbrev pub value : Edges
value = array or expression

abbrev pub constant : Edges
constant = name >> own_shape >> sign terminal.Equals >> value

abbrev pub dimension : Edges
dimension = sign terminal.Dimension >> shape

abbrev pub variables : Edges
variables = separated variable

abbrev pub constants : Edges
constants = sign terminal.DoubleColon >> separated constant

abbrev pub behind_dimension : Edges
behind_dimension = sign terminal.Comma >> sign terminal.Parameter >> constants or sign terminal.DoubleColon >> variables

abbrev pub more_dimension : Edges
more_dimension = sign terminal.Comma >> dimension or nothing

abbrev pub attributes : Edges
attributes = dimension >> behind_dimension or sign terminal.Parameter >> more_dimension >> constants

abbrev pub colons : Edges
colons = sign terminal.DoubleColon or nothing

abbrev pub integer : Edges
integer = sign terminal.Comma >> attributes or colons >> variables

abbrev pub fortran : Edges
fortran = sign terminal.Implicit >> sign terminal.NoneWord or sign terminal.Integer >> integer

-- ---- directives

abbrev pub format_width : Edges
format_width = argument or nothing

abbrev pub format : Edges
format =
    sign terminal.Star or sign terminal.Block >> format_width or sign terminal.Cyclic >> format_width
    or sign terminal.GenBlock >> name_argument or sign terminal.Indirect >> name_argument

abbrev pub onto : Edges
onto = sign terminal.Onto >> name or nothing

abbrev pub distribution : Edges
distribution = enclosed format >> onto

abbrev pub source : Edges
source = sign terminal.Colon or sign terminal.Star or name

abbrev pub sources : Edges
sources = enclosed source or nothing

abbrev pub maybe_expression : Edges
maybe_expression = expression or nothing

abbrev pub triplet : Edges
triplet = sign terminal.DoubleColon >> expression or sign terminal.Colon >> maybe_expression >> after_colon

abbrev pub sub : Edges
sub = sign terminal.Star or triplet or expression >> (triplet or nothing)

abbrev pub subs : Edges
subs = enclosed sub or nothing

abbrev pub alignment : Edges
alignment = sources >> sign terminal.With >> name >> subs

abbrev pub width : Edges
width = expression >> after_colon

abbrev pub widths : Edges
widths = enclosed width

abbrev pub directive : Edges
directive =
    sign terminal.Processors >> separated shaped or sign terminal.Template >> separated shaped
    or sign terminal.Distribute >> of_names distribution or sign terminal.Align >> of_names alignment
    or sign terminal.Shadow >> of_names widths

-- ---- pipelines

abbrev pub buffers : Edges
buffers = sign terminal.Buffers >> argument or nothing

abbrev pub stencil : Edges
stencil = sign terminal.LeftParen >> expression >> sign terminal.Comma >> array >> sign terminal.RightParen

abbrev pub operation : Edges
operation =
    sign terminal.Add >> argument or sign terminal.Mul >> argument or sign terminal.Prefix >> argument
    or sign terminal.Stencil >> stencil or nothing

abbrev pub permute : Edges
permute = sign terminal.Permute >> enclosed expression or nothing

abbrev pub input : Edges
input = name >> buffers >> operation

abbrev pub stage : Edges
stage = name >> permute >> buffers >> operation

abbrev pub pipeline : Edges
pipeline = sign terminal.Input >> input or sign terminal.Stage >> stage

-- ---- the text

abbrev pub statement : Edges
statement = sign terminal.Hpf >> directive or sign terminal.Pipe >> pipeline or fortran
