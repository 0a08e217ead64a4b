-- The rules of the grammar that are read from left to right in another order than they are written: what alternatives
-- begin with stands once, in front of them, and an alternative that is known by its first token before those that aren't.
use Rattle.std.specs.Prelude.{List, [], Option, Some, None}
use Rattle.hpf_syntax.specs.declared.terminal.Terminal.TheVariants as terminal
use Rattle.hpf_syntax.specs.Plain.{Tree, BoundTree, ValueTree, One, Many, SubTree, AnyPlace, OnePlace, Triplet, ItemTree, ImplicitNone}
use Rattle.hpf_syntax.specs.Rules.{Rule, Done, ◌>>=◌, ◌or◌, Sign, AnExpression}
use Rattle.hpf_syntax.specs.Grammar.{AfterColon, AnArray, ADimension, SomeVariables, SomeConstants, MaybeColons, MaybeExpression, ADirective, APipeline}
use Rattle.hpf_syntax.specs.Grammar as grammar

-- ---- declarations

-- value = array | expr
abbrev pub AValue : Rule ValueTree
AValue = (AnArray >>= λ list. Done (Many list)) or (AnExpression >>= λ e. Done (One e))

-- "::" constants
abbrev pub ColonsConstants : List BoundTree → Rule ItemTree
ColonsConstants common = Sign terminal.DoubleColon >>= λ colons. SomeConstants common

-- behind a dimension: "," "PARAMETER" "::" constants | "::" variables
abbrev pub BehindDimension : List BoundTree → Rule ItemTree
BehindDimension common =
    (Sign terminal.Comma >>= λ comma. Sign terminal.Parameter >>= λ at. ColonsConstants common)
    or (Sign terminal.DoubleColon >>= λ colons. SomeVariables common)

-- [ "," dimension ]
abbrev pub MoreDimension : Rule (List BoundTree)
MoreDimension = (Sign terminal.Comma >>= λ comma. ADimension) or Done []

-- behind "INTEGER" ",": dimension .. | "PARAMETER" [ "," dimension ] "::" constants
abbrev pub Attributes : Rule ItemTree
Attributes =
    (ADimension >>= λ common. BehindDimension common)
    or (Sign terminal.Parameter >>= λ at. MoreDimension >>= λ common. ColonsConstants common)

-- behind "INTEGER": "," .. | [ "::" ] variables
abbrev pub BehindInteger : Rule ItemTree
BehindInteger = (Sign terminal.Comma >>= λ comma. Attributes) or (MaybeColons >>= λ colons. SomeVariables [])

-- fortran = "IMPLICIT" "NONE" | "INTEGER" ..
abbrev pub Fortran : Rule ItemTree
Fortran =
    (Sign terminal.Implicit >>= λ at. Sign terminal.NoneWord >>= λ none. Done (ImplicitNone at))
    or (Sign terminal.Integer >>= λ at. BehindInteger)

-- ---- subscripts

-- the rest of a triplet, from its first colon on: "::" expr | ":" [ expr ] [ ":" expr ]
abbrev pub ATriplet : Option Tree → Rule SubTree
ATriplet low =
    (Sign terminal.DoubleColon >>= λ at. AnExpression >>= λ step. Done (Triplet at low None (Some step)))
    or (Sign terminal.Colon >>= λ at. MaybeExpression >>= λ high. AfterColon >>= λ step. Done (Triplet at low high step))

-- sub = "*" | expr | triplet, where a triplet may begin with an expression
abbrev pub ASub : Rule SubTree
ASub =
    (Sign terminal.Star >>= λ at. Done (AnyPlace at))
    or (ATriplet None or (AnExpression >>= λ e. ATriplet (Some e) or Done (OnePlace e)))

-- ---- the text

-- statement = Hpf directive | Pipe pipeline | fortran
abbrev pub AStatement : Rule ItemTree
AStatement = (Sign terminal.Hpf >>= λ at. ADirective) or ((Sign terminal.Pipe >>= λ at. APipeline) or grammar.Fortran)
