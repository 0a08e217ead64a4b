-- What a token is to the grammar. Words are compared in upper case (this project defines which are reserved).
use Rattle.std.specs.Prelude.{◌≡◌, ℕ, List, [], ◌∷◌, Bool, ◌==◌, codes, if◌then◌else◌}
use Rattle.std.specs.Str.{bytes_eq}
use Rattle.hpf_lex.specs.declared.token.Token.{Token}
use Rattle.hpf_lex.specs.declared.token.TokenKind.{TokenKind}
use Rattle.hpf_lex.specs.declared.token.TokenKind.TheVariants as kind
use Rattle.hpf_syntax.specs.declared.terminal.Terminal.{Terminal}
use Rattle.hpf_syntax.specs.declared.terminal.Terminal.TheVariants as terminal

-- how a reserved word is spelled
unfoldable pub spelling : Terminal → List ℕ
spelling terminal.Add = codes "ADD"
spelling terminal.Align = codes "ALIGN"
spelling terminal.Block = codes "BLOCK"
spelling terminal.Buffers = codes "BUFFERS"
spelling terminal.Cyclic = codes "CYCLIC"
spelling terminal.Dimension = codes "DIMENSION"
spelling terminal.Distribute = codes "DISTRIBUTE"
spelling terminal.Dynamic = codes "DYNAMIC"
spelling terminal.GenBlock = codes "GEN_BLOCK"
spelling terminal.Implicit = codes "IMPLICIT"
spelling terminal.Indirect = codes "INDIRECT"
spelling terminal.Inherit = codes "INHERIT"
spelling terminal.Input = codes "INPUT"
spelling terminal.Integer = codes "INTEGER"
spelling terminal.Mul = codes "MUL"
spelling terminal.NoneWord = codes "NONE"
spelling terminal.Onto = codes "ONTO"
spelling terminal.Parameter = codes "PARAMETER"
spelling terminal.Permute = codes "PERMUTE"
spelling terminal.Prefix = codes "PREFIX"
spelling terminal.Processors = codes "PROCESSORS"
spelling terminal.Realign = codes "REALIGN"
spelling terminal.Redistribute = codes "REDISTRIBUTE"
spelling terminal.Reduce = codes "REDUCE"
spelling terminal.Shadow = codes "SHADOW"
spelling terminal.Stage = codes "STAGE"
spelling terminal.Stencil = codes "STENCIL"
spelling terminal.Template = codes "TEMPLATE"
spelling terminal.With = codes "WITH"
spelling _ = []

-- no name may be one of these
abbrev pub reserved_words : List Terminal
reserved_words =
    terminal.Add ∷ terminal.Align ∷ terminal.Block ∷ terminal.Buffers ∷ terminal.Cyclic ∷
    terminal.Dimension ∷ terminal.Distribute ∷ terminal.Dynamic ∷ terminal.GenBlock ∷
    terminal.Implicit ∷ terminal.Indirect ∷ terminal.Inherit ∷ terminal.Input ∷
    terminal.Integer ∷ terminal.Mul ∷ terminal.NoneWord ∷ terminal.Onto ∷ terminal.Parameter ∷
    terminal.Permute ∷ terminal.Prefix ∷ terminal.Processors ∷ terminal.Realign ∷
    terminal.Redistribute ∷ terminal.Reduce ∷ terminal.Shadow ∷ terminal.Stage ∷
    terminal.Stencil ∷ terminal.Template ∷ terminal.With ∷ []

-- the first of these words that is spelled so, or a name
unfoldable pub word_among : List Terminal → List ℕ → Terminal
word_among [] bytes = terminal.Name
word_among (word ∷ words) bytes = if bytes_eq bytes (spelling word) then word else word_among words bytes

unfoldable pub word_terminal : List ℕ → Terminal
word_terminal bytes = word_among reserved_words bytes

-- a word is a reserved word or a name, and any other token is what its kind says
unfoldable pub kind_terminal : TokenKind → List ℕ → Terminal
kind_terminal kind.Word bytes = word_terminal bytes
kind_terminal kind.Hpf bytes = terminal.Hpf
kind_terminal kind.Pipe bytes = terminal.Pipe
kind_terminal kind.Number bytes = terminal.Number
kind_terminal kind.LeftParen bytes = terminal.LeftParen
kind_terminal kind.RightParen bytes = terminal.RightParen
kind_terminal kind.LeftArray bytes = terminal.LeftArray
kind_terminal kind.RightArray bytes = terminal.RightArray
kind_terminal kind.Comma bytes = terminal.Comma
kind_terminal kind.Colon bytes = terminal.Colon
kind_terminal kind.DoubleColon bytes = terminal.DoubleColon
kind_terminal kind.Star bytes = terminal.Star
kind_terminal kind.Plus bytes = terminal.Plus
kind_terminal kind.Minus bytes = terminal.Minus
kind_terminal kind.Equals bytes = terminal.Equals
kind_terminal kind.End bytes = terminal.End

unfoldable pub token_terminal : Token → Terminal
token_terminal token = kind_terminal token.kind token.word

-- this token is this terminal
abbrev pub Is : Terminal → Token → Type 0
Is wanted token = token_terminal token ≡ wanted

unfoldable pub first_terminal : List Token → Terminal
first_terminal [] = terminal.Missing
first_terminal (token ∷ tokens) = token_terminal token

-- each terminal has a number of its own
unfoldable pub number_of : Terminal → ℕ
number_of terminal.Missing = 0
number_of terminal.Name = 1
number_of terminal.Hpf = 2
number_of terminal.Pipe = 3
number_of terminal.Number = 4
number_of terminal.LeftParen = 5
number_of terminal.RightParen = 6
number_of terminal.LeftArray = 7
number_of terminal.RightArray = 8
number_of terminal.Comma = 9
number_of terminal.Colon = 10
number_of terminal.DoubleColon = 11
number_of terminal.Star = 12
number_of terminal.Plus = 13
number_of terminal.Minus = 14
number_of terminal.Equals = 15
number_of terminal.End = 16
number_of terminal.Add = 17
number_of terminal.Align = 18
number_of terminal.Block = 19
number_of terminal.Buffers = 20
number_of terminal.Cyclic = 21
number_of terminal.Dimension = 22
number_of terminal.Distribute = 23
number_of terminal.Dynamic = 24
number_of terminal.GenBlock = 25
number_of terminal.Implicit = 26
number_of terminal.Indirect = 27
number_of terminal.Inherit = 28
number_of terminal.Input = 29
number_of terminal.Integer = 30
number_of terminal.Mul = 31
number_of terminal.NoneWord = 32
number_of terminal.Onto = 33
number_of terminal.Parameter = 34
number_of terminal.Permute = 35
number_of terminal.Prefix = 36
number_of terminal.Processors = 37
number_of terminal.Realign = 38
number_of terminal.Redistribute = 39
number_of terminal.Reduce = 40
number_of terminal.Shadow = 41
number_of terminal.Stage = 42
number_of terminal.Stencil = 43
number_of terminal.Template = 44
number_of terminal.With = 45

-- whether two terminals are one
unfoldable pub same : Terminal → Terminal → Bool
same a b = number_of a == number_of b

-- whether the first token is this terminal
unfoldable pub begins : Terminal → List Token → Bool
begins wanted tokens = same (first_terminal tokens) wanted
