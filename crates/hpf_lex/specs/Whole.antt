-- Lists of whole statements.
use Rattle.std.specs.Prelude.{◌≡◌, List, [], ◌∷◌, ◌++◌}
use Rattle.hpf_lex.specs.declared.token.Token.{Token}
use Rattle.hpf_lex.specs.declared.token.TokenKind.TheVariants.{End}

-- no statement is left open: the last token, if there is one, is an end
abbrev pub AreWhole : List Token → Type 0
AreWhole tokens = (front : List Token) (last : Token) → tokens ≡ front ++ last ∷ [] → last.kind ≡ End
