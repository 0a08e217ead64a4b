-- What may stand directly behind a token without being part of it.
use Rattle.std.specs.Prelude.{◌≡◌, ℕ, ◌≤◌, Bool, false, ◌==◌, List, [], ◌∷◌, map, IsTrue}
use Rattle.hpf_lex.specs.declared.token.Token.{Token}
use Rattle.hpf_lex.specs.declared.token.TokenKind.{TokenKind}
use Rattle.hpf_lex.specs.declared.token.TokenKind.TheVariants as kind
use Rattle.hpf_lex.specs.Bytes.{is_name_byte, upper}
use Rattle.hpf_lex.specs.Name.{is_name}
use Rattle.hpf_lex.specs.Lexeme.{max_number}

-- whether this byte goes on with a token of this kind: a letter, digit or `_` with a word or number, `/` (47) with `(`,
-- and `:` (58) with `:`
abbrev pub goes_on : TokenKind → ℕ → Bool
goes_on kind.Word c = is_name_byte c
goes_on kind.Number c = is_name_byte c
goes_on kind.LeftParen c = c == 47
goes_on kind.Colon c = c == 58
goes_on _ c = false

-- nothing, or bytes the first of which doesn't go on with a token of this kind
abbrev pub StopsAt : TokenKind → List ℕ → Type 0
StopsAt kind [] = Unit {0}
StopsAt kind (c ∷ rest) = goes_on kind c ≡ false

-- a token that some text has: a word is a name in upper case, and a number isn't too great
pub record IsProper (token : Token) : Type 0 where
  pub name : token.kind ≡ kind.Word → IsTrue (is_name token.word)
  pub upper_case : token.kind ≡ kind.Word → map upper token.word ≡ token.word
  pub small : token.kind ≡ kind.Number → token.number ≤ max_number
