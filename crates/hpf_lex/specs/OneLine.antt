-- Texts whose statements stand on one line each, with one blank behind a prefix.
use Rattle.std.specs.Prelude.{◌≡◌, ℕ, ◌+◌, ◌-◌, false, List, [], ◌∷◌, ◌++◌, length, codes, Option, Some, None, slice_index}
use Rattle.std.specs.List.{flat_map}
use Rattle.hpf_lex.specs.declared.line.Form.{Form}
use Rattle.hpf_lex.specs.declared.line.Form.TheVariants.{Fortran, Directive, Pipeline}
use Rattle.hpf_lex.specs.declared.token.Token.{Token}
use Rattle.hpf_lex.specs.declared.token.TokenKind.{TokenKind}
use Rattle.hpf_lex.specs.declared.token.TokenKind.TheVariants as kind
use Rattle.hpf_lex.specs.Bytes.{is_blank}
use Rattle.hpf_lex.specs.Cut.{Cut}
use Rattle.hpf_lex.specs.Statement.{bare_token, prefix_kind}

-- a statement of this kind, with what stands behind its prefix, and the tokens of that
pub record OneLine : Type 0 where
  pub form : Form
  pub text : List ℕ
  pub tokens : List Token

abbrev pub prefix_text : Form → List ℕ
prefix_text Directive = codes "!HPF$ "
prefix_text Pipeline = codes "!PIPE$ "
prefix_text Fortran = []

-- its line
abbrev pub one_line : OneLine → List ℕ
one_line s = prefix_text s.form ++ (s.text ++ codes "\n")

-- the token that the prefix is, in the first column
abbrev pub first_token : ℕ → Option TokenKind → List Token
first_token line None = []
first_token line (Some kind) = bare_token kind line 1 ∷ []

-- all tokens of the statement, where it stands on this line
abbrev pub line_tokens : ℕ → OneLine → List Token
line_tokens line s =
    first_token line (prefix_kind s.form) ++ (s.tokens ++ bare_token kind.End line (length (prefix_text s.form) + length s.text + 1) ∷ [])

-- On this line the text behind the prefix is cut into the tokens, with no blank at either end.
pub record StandsOn (line : ℕ) (s : OneLine) : Type 0 where
  pub cut : Cut line (length (prefix_text s.form) + 1) s.text s.tokens
  pub begins : is_blank (slice_index s.text 0) ≡ false
  pub ends : is_blank (slice_index s.text (length s.text - 1)) ≡ false
  pub some : (s.text ≡ []) → ⊥

-- and so on, from this line on
abbrev pub StandFrom : ℕ → List OneLine → Type 0
StandFrom line [] = Unit {0}
StandFrom line (s ∷ ss) = StandsOn line s × StandFrom (line + 1) ss

abbrev pub tokens_from : ℕ → List OneLine → List Token
tokens_from line [] = []
tokens_from line (s ∷ ss) = line_tokens line s ++ tokens_from (line + 1) ss

abbrev pub one_line_text : List OneLine → List ℕ
one_line_text ss = flat_map one_line ss
