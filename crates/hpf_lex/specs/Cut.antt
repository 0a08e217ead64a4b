-- The tokens of a line as a relation: blanks, a token, blanks, a token, and so on to the end.
use Rattle.std.specs.Prelude.{◌≡◌, ℕ, ◌+◌, false, List, [], ◌∷◌, ◌++◌, length, Ok, slice_index, IsTrue}
use Rattle.hpf_lex.specs.declared.lexeme.Lexeme.{Lexeme}
use Rattle.hpf_lex.specs.declared.token.Token.{Token}
use Rattle.hpf_lex.specs.Bytes.{is_blank}
use Rattle.hpf_lex.specs.Lexeme.{lexeme_at}
use Rattle.hpf_lex.specs.Statement.{token_at}

-- bytes of a line, the first in this column, that have no fault, and their tokens
pub data Cut : ℕ → ℕ → List ℕ → List Token → Type 0 where
  nothing : {line column : ℕ} → Cut line column [] []
  blank : {line column c : ℕ} {bytes : List ℕ} {tokens : List Token} → IsTrue (is_blank c) → Cut line (column + 1) bytes tokens → Cut line column (c ∷ bytes) tokens
  token : {line column : ℕ} {bytes : List ℕ} {tokens : List Token} (found : Lexeme) (spelling rest : List ℕ)
      → bytes ≡ spelling ++ rest → found.width ≡ length spelling → is_blank (slice_index bytes 0) ≡ false → lexeme_at bytes ≡ Ok found
      → Cut line (column + length spelling) rest tokens → Cut line column bytes (token_at found line column ∷ tokens)
