-- How each sign and each reserved word is spelled in canonical text.
use Rattle.std.proofs.Common.{refl}
use Rattle.std.specs.Prelude.{codes}
use Rattle.hpf_lex.specs.declared.token.TokenKind.TheVariants as kind
use Rattle.hpf_lex.specs.Bytes.{is_blank}
use Rattle.hpf_syntax.specs.declared.terminal.Terminal.TheVariants as terminal
use Rattle.hpf_syntax.specs.Terminal.{spelling, word_among, word_terminal, kind_terminal, token_terminal}
use Rattle.hpf_syntax.proofs.PrintedCuts.{IsClosed}
use Rattle.hpf_syntax.proofs.PrintedRules.{IsSign}

-- ---- signs

pub left_paren : IsSign terminal.LeftParen kind.LeftParen (codes "(")
unfolding token_terminal kind_terminal is_blank
left_paren = record { spells = refl; is = λ line column. refl; ends = refl }

pub right_paren : IsSign terminal.RightParen kind.RightParen (codes ")")
unfolding token_terminal kind_terminal is_blank
right_paren = record { spells = refl; is = λ line column. refl; ends = refl }

pub left_array : IsSign terminal.LeftArray kind.LeftArray (codes "(/")
unfolding token_terminal kind_terminal is_blank
left_array = record { spells = refl; is = λ line column. refl; ends = refl }

pub right_array : IsSign terminal.RightArray kind.RightArray (codes "/)")
unfolding token_terminal kind_terminal is_blank
right_array = record { spells = refl; is = λ line column. refl; ends = refl }

pub comma : IsSign terminal.Comma kind.Comma (codes ",")
unfolding token_terminal kind_terminal is_blank
comma = record { spells = refl; is = λ line column. refl; ends = refl }

pub colon : IsSign terminal.Colon kind.Colon (codes ":")
unfolding token_terminal kind_terminal is_blank
colon = record { spells = refl; is = λ line column. refl; ends = refl }

pub double_colon : IsSign terminal.DoubleColon kind.DoubleColon (codes "::")
unfolding token_terminal kind_terminal is_blank
double_colon = record { spells = refl; is = λ line column. refl; ends = refl }

pub star : IsSign terminal.Star kind.Star (codes "*")
unfolding token_terminal kind_terminal is_blank
star = record { spells = refl; is = λ line column. refl; ends = refl }

pub plus : IsSign terminal.Plus kind.Plus (codes "+")
unfolding token_terminal kind_terminal is_blank
plus = record { spells = refl; is = λ line column. refl; ends = refl }

pub minus : IsSign terminal.Minus kind.Minus (codes "-")
unfolding token_terminal kind_terminal is_blank
minus = record { spells = refl; is = λ line column. refl; ends = refl }

pub equals : IsSign terminal.Equals kind.Equals (codes "=")
unfolding token_terminal kind_terminal is_blank
equals = record { spells = refl; is = λ line column. refl; ends = refl }

pub right_paren_closed : IsClosed kind.RightParen
right_paren_closed c = refl

pub left_array_closed : IsClosed kind.LeftArray
left_array_closed c = refl

pub right_array_closed : IsClosed kind.RightArray
right_array_closed c = refl

pub comma_closed : IsClosed kind.Comma
comma_closed c = refl

pub double_colon_closed : IsClosed kind.DoubleColon
double_colon_closed c = refl

pub star_closed : IsClosed kind.Star
star_closed c = refl

pub plus_closed : IsClosed kind.Plus
plus_closed c = refl

pub minus_closed : IsClosed kind.Minus
minus_closed c = refl

pub equals_closed : IsClosed kind.Equals
equals_closed c = refl

-- ---- words

pub implicit : IsSign terminal.Implicit kind.Word (codes "IMPLICIT")
unfolding token_terminal kind_terminal word_terminal word_among spelling is_blank
implicit = record { spells = refl; is = λ line column. refl; ends = refl }

pub none : IsSign terminal.NoneWord kind.Word (codes "NONE")
unfolding token_terminal kind_terminal word_terminal word_among spelling is_blank
none = record { spells = refl; is = λ line column. refl; ends = refl }

pub integer : IsSign terminal.Integer kind.Word (codes "INTEGER")
unfolding token_terminal kind_terminal word_terminal word_among spelling is_blank
integer = record { spells = refl; is = λ line column. refl; ends = refl }

pub dimension : IsSign terminal.Dimension kind.Word (codes "DIMENSION")
unfolding token_terminal kind_terminal word_terminal word_among spelling is_blank
dimension = record { spells = refl; is = λ line column. refl; ends = refl }

pub parameter : IsSign terminal.Parameter kind.Word (codes "PARAMETER")
unfolding token_terminal kind_terminal word_terminal word_among spelling is_blank
parameter = record { spells = refl; is = λ line column. refl; ends = refl }

pub processors : IsSign terminal.Processors kind.Word (codes "PROCESSORS")
unfolding token_terminal kind_terminal word_terminal word_among spelling is_blank
processors = record { spells = refl; is = λ line column. refl; ends = refl }

pub template : IsSign terminal.Template kind.Word (codes "TEMPLATE")
unfolding token_terminal kind_terminal word_terminal word_among spelling is_blank
template = record { spells = refl; is = λ line column. refl; ends = refl }

pub distribute : IsSign terminal.Distribute kind.Word (codes "DISTRIBUTE")
unfolding token_terminal kind_terminal word_terminal word_among spelling is_blank
distribute = record { spells = refl; is = λ line column. refl; ends = refl }

pub onto : IsSign terminal.Onto kind.Word (codes "ONTO")
unfolding token_terminal kind_terminal word_terminal word_among spelling is_blank
onto = record { spells = refl; is = λ line column. refl; ends = refl }

pub block : IsSign terminal.Block kind.Word (codes "BLOCK")
unfolding token_terminal kind_terminal word_terminal word_among spelling is_blank
block = record { spells = refl; is = λ line column. refl; ends = refl }

pub cyclic : IsSign terminal.Cyclic kind.Word (codes "CYCLIC")
unfolding token_terminal kind_terminal word_terminal word_among spelling is_blank
cyclic = record { spells = refl; is = λ line column. refl; ends = refl }

pub gen_block : IsSign terminal.GenBlock kind.Word (codes "GEN_BLOCK")
unfolding token_terminal kind_terminal word_terminal word_among spelling is_blank
gen_block = record { spells = refl; is = λ line column. refl; ends = refl }

pub indirect : IsSign terminal.Indirect kind.Word (codes "INDIRECT")
unfolding token_terminal kind_terminal word_terminal word_among spelling is_blank
indirect = record { spells = refl; is = λ line column. refl; ends = refl }

pub align : IsSign terminal.Align kind.Word (codes "ALIGN")
unfolding token_terminal kind_terminal word_terminal word_among spelling is_blank
align = record { spells = refl; is = λ line column. refl; ends = refl }

pub with_word : IsSign terminal.With kind.Word (codes "WITH")
unfolding token_terminal kind_terminal word_terminal word_among spelling is_blank
with_word = record { spells = refl; is = λ line column. refl; ends = refl }

pub shadow : IsSign terminal.Shadow kind.Word (codes "SHADOW")
unfolding token_terminal kind_terminal word_terminal word_among spelling is_blank
shadow = record { spells = refl; is = λ line column. refl; ends = refl }

pub input : IsSign terminal.Input kind.Word (codes "INPUT")
unfolding token_terminal kind_terminal word_terminal word_among spelling is_blank
input = record { spells = refl; is = λ line column. refl; ends = refl }

pub stage : IsSign terminal.Stage kind.Word (codes "STAGE")
unfolding token_terminal kind_terminal word_terminal word_among spelling is_blank
stage = record { spells = refl; is = λ line column. refl; ends = refl }

pub permute : IsSign terminal.Permute kind.Word (codes "PERMUTE")
unfolding token_terminal kind_terminal word_terminal word_among spelling is_blank
permute = record { spells = refl; is = λ line column. refl; ends = refl }

pub buffers : IsSign terminal.Buffers kind.Word (codes "BUFFERS")
unfolding token_terminal kind_terminal word_terminal word_among spelling is_blank
buffers = record { spells = refl; is = λ line column. refl; ends = refl }

pub add : IsSign terminal.Add kind.Word (codes "ADD")
unfolding token_terminal kind_terminal word_terminal word_among spelling is_blank
add = record { spells = refl; is = λ line column. refl; ends = refl }

pub mul : IsSign terminal.Mul kind.Word (codes "MUL")
unfolding token_terminal kind_terminal word_terminal word_among spelling is_blank
mul = record { spells = refl; is = λ line column. refl; ends = refl }

pub prefix : IsSign terminal.Prefix kind.Word (codes "PREFIX")
unfolding token_terminal kind_terminal word_terminal word_among spelling is_blank
prefix = record { spells = refl; is = λ line column. refl; ends = refl }

pub stencil : IsSign terminal.Stencil kind.Word (codes "STENCIL")
unfolding token_terminal kind_terminal word_terminal word_among spelling is_blank
stencil = record { spells = refl; is = λ line column. refl; ends = refl }
