-- How each token is spelled, and what it means that bytes begin with the longest token (Fortran 90, lexical tokens).
use Rattle.std.specs.Prelude.{◌≡◌, ℕ, ◌<◌, ◌≤◌, List, [], length, take, map, codes, IsTrue}
use Rattle.std.specs.List.{list_all}
use Rattle.hpf_lex.specs.declared.lexeme.Lexeme.{Lexeme}
use Rattle.hpf_lex.specs.declared.token.TokenKind.{TokenKind}
use Rattle.hpf_lex.specs.declared.token.TokenKind.TheVariants as kind
use Rattle.hpf_lex.specs.Bytes.{is_digit, upper}
use Rattle.hpf_lex.specs.Name.{is_name}
use Rattle.hpf_lex.specs.Lexeme.{number_of, max_number}

-- digits that stand for a number that isn't too great
pub record IsNumeral (bytes : List ℕ) : Type 0 where
  pub some : 0 < length bytes
  pub digits : IsTrue (list_all is_digit bytes)
  pub small : number_of bytes ≤ max_number

-- These bytes, all of them, spell a token of this kind. A prefix is a token by its line, and an end by its statement.
abbrev pub Spells : TokenKind → List ℕ → Type 0
Spells kind.Hpf bytes = ⊥
Spells kind.Pipe bytes = ⊥
Spells kind.Word bytes = IsTrue (is_name bytes)
Spells kind.Number bytes = IsNumeral bytes
Spells kind.LeftParen bytes = bytes ≡ codes "("
Spells kind.RightParen bytes = bytes ≡ codes ")"
Spells kind.LeftArray bytes = bytes ≡ codes "(/"
Spells kind.RightArray bytes = bytes ≡ codes "/)"
Spells kind.Comma bytes = bytes ≡ codes ","
Spells kind.Colon bytes = bytes ≡ codes ":"
Spells kind.DoubleColon bytes = bytes ≡ codes "::"
Spells kind.Star bytes = bytes ≡ codes "*"
Spells kind.Plus bytes = bytes ≡ codes "+"
Spells kind.Minus bytes = bytes ≡ codes "-"
Spells kind.Equals bytes = bytes ≡ codes "="
Spells kind.End bytes = ⊥

-- the word of a token of this kind: its bytes as upper case, and nothing for the kinds that are no words
abbrev pub word_of : TokenKind → List ℕ → List ℕ
word_of kind.Word bytes = map upper bytes
word_of _ bytes = []

-- its number, which is 0 for the kinds that are no numbers
abbrev pub number_in : TokenKind → List ℕ → ℕ
number_in kind.Number bytes = number_of bytes
number_in _ bytes = 0

-- no token that these bytes begin with has more than n bytes
abbrev pub NoneLonger : ℕ → List ℕ → Type 0
NoneLonger n bytes = (kind : TokenKind) (m : ℕ) → n < m → m ≤ length bytes → Spells kind (take m bytes) → ⊥

-- the token at the front of these bytes, and the longest that stands there
pub record IsLongest (found : Lexeme) (bytes : List ℕ) : Type 0 where
  pub within : found.width ≤ length bytes
  pub spells : Spells found.kind (take found.width bytes)
  pub word : found.word ≡ word_of found.kind (take found.width bytes)
  pub number : found.number ≡ number_in found.kind (take found.width bytes)
  pub longest : NoneLonger found.width bytes
