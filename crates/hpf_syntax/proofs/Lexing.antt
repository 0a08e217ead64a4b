-- What the lexer promises of tokens that are written out, as a hypothesis of the laws of the printed text.
use Rattle.std.specs.Prelude.{◌≡◌, ℕ, ◌≤◌, false, List, ◌++◌, length, Ok, slice_index}
use Rattle.std.specs.Fmt.{decimal}
use Rattle.hpf_lex.specs.declared.token.TokenKind.{TokenKind}
use Rattle.hpf_lex.specs.Bytes.{is_blank}
use Rattle.hpf_lex.specs.Lexeme.{lexeme_at, max_number, number_of}
use Rattle.hpf_lex.specs.Spelling.{Spells, IsNumeral, word_of, number_in}
use Rattle.hpf_lex.specs.Follows.{StopsAt}

pub record Lexing : Type 0 where
  -- a token is found where it is spelled, and what stands behind doesn't go on with it
  pub spelled : (kind : TokenKind) (spelling rest : List ℕ) → Spells kind spelling → StopsAt kind rest → lexeme_at (spelling ++ rest) ≡ Ok (record { kind = kind; word = word_of kind spelling; number = number_in kind spelling; width = length spelling })
  -- no token begins with a blank
  pub not_blank : (kind : TokenKind) (spelling rest : List ℕ) → Spells kind spelling → is_blank (slice_index (spelling ++ rest) 0) ≡ false
  -- a number in decimal is read as itself
  pub numeral : (n : ℕ) → n ≤ max_number → IsNumeral (decimal n) × (number_of (decimal n) ≡ n)
